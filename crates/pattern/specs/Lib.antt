pub mod Every
pub mod Commands
pub mod Drawn
pub mod Meaning
pub mod Encoded
pub mod Closed
pub mod Only
