pub mod Bounds
pub mod Again
pub mod Front
pub mod Steps
