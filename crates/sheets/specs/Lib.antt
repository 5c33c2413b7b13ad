pub mod Moving
pub mod Written
pub mod Turned
pub mod Back
pub mod Only
pub mod Again
pub mod Return
pub mod Examples
