pub mod Util
pub mod Same
pub mod Euler
pub mod Points
pub mod NoOffset
pub mod Answers
pub mod Straight
pub mod Judged
