pub mod Halves
pub mod Plans
