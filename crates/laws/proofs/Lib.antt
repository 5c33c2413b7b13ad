pub mod Same
pub mod Own
pub mod Dyadic
pub mod Limits
