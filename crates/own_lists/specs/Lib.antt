pub mod Fills
pub mod Sums
pub mod Enough
