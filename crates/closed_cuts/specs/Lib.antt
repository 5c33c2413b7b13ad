pub mod Closed
pub mod Chains
