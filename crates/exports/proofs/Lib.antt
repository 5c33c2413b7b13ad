pub mod Converted
pub mod Pens
pub mod Imports
pub mod Profiled
pub mod Wholes
