pub mod Sheet
pub mod Points
pub mod Subpaths
pub mod Patterns
pub mod Passing
