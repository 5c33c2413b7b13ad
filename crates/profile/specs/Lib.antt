pub mod Reads
pub mod Rules
pub mod Verdict
pub mod Trail
pub mod Walk
pub mod Parts
pub mod Passed
pub mod Only
