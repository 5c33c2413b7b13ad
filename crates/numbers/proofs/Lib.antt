pub mod Bits
pub mod Halves
pub mod Integers
pub mod Nearest
pub mod Spans
pub mod Wholes
