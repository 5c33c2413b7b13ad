-- What a literal computes to. Assumes nothing.
pub use lib.Ieee.{of_bits, round, div}
