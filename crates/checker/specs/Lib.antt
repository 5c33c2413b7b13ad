pub mod Verdict
pub mod Search
pub mod Laws
pub mod Only
