pub mod Segment
pub mod Only
