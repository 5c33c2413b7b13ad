-- The mathematics by name and by promise. A `pub use` without `unfoldable` passes a definition on shut: no crate that names `maths` alone can open it.
pub mod Numbers
pub mod Roots
pub mod Trig
