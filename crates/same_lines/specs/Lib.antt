pub mod Conditions
pub mod Sheets
pub mod Sums
pub mod Points
pub mod Pairs
pub mod Flattens
