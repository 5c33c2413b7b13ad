-- The laws that the proofs share.
pub mod Patterns
pub mod Upward
pub mod Packing
pub mod Feeding
pub mod Squares
pub mod Sums
pub mod Products
pub mod Candidates
pub mod Wide
pub mod Cubes
