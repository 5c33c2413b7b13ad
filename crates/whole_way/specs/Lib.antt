pub mod Calls
pub mod Promise
pub mod Conditions
pub mod Sheets
pub mod Drawn
pub mod Stages
pub mod Accepts
