-- The laws that the proofs share.
pub mod Rounding
pub mod Lifting
pub mod Reading
pub mod Places
pub mod Sounds
pub mod Walking
pub mod Deals
pub mod Walks
pub mod Stretches
pub mod Calls
