pub mod Lines
pub mod Scale
pub mod Ranges
pub mod Tree
pub mod Walk
pub mod OneLine
