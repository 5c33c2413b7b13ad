pub mod Cuts
pub mod Balance
