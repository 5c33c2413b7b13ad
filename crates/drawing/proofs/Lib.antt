pub mod Floats
pub mod Draw
pub mod Chords
