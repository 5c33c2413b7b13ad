pub mod Trig
pub mod Large
pub mod Signs
pub mod Steady
pub mod Flat
pub mod TrigLaws
pub mod Limits
pub mod TrigValues
