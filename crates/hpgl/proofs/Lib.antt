pub mod Signed
pub mod Sound
pub mod Language
pub mod Stops
pub mod ReadingLaws
