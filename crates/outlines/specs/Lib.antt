pub mod Placing
pub mod Flattened
pub mod Walk
pub mod Decode
pub mod Lines
pub mod Sheet
