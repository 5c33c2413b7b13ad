-- What crate `trig` defines and promises, passed on shut.
pub use Rattle.trig.specs.Trig.{sin_of, cos_of, atan2_of, asin_of, acos_of, Within, zero, minus_zero, one, minus_one, half_pi, minus_half_pi, pi, minus_pi}
pub use Rattle.trig.specs.Signs.{within_number, lt_not_le}
pub use Rattle.trig.specs.TrigLaws.{sin_only, cos_only, atan2_only, asin_only, acos_only, sin_nan, cos_nan, sin_infinite, cos_infinite, asin_nan, acos_nan, atan2_nan_y, atan2_nan_x, cos_even, asin_odd, atan2_odd, sin_range, cos_range, atan2_range, asin_above, asin_below, acos_above, acos_below, asin_range, acos_range, cos_number, atan2_number, asin_number, acos_number, sin_zero, sin_minus_zero, cos_zero, cos_minus_zero, acos_one, acos_zero, acos_minus_zero, atan2_zero, atan2_minus_zero, sin_fits, cos_fits, atan2_fits, asin_fits, acos_fits}
pub use Rattle.trig.proofs.TrigLaws.{sin_odd, sin_number}
pub use Rattle.trig.specs.Limits.{cos_least, cos_small, atan2_small}
pub use Rattle.trig.proofs.Limits.{sin_small}
-- open, for who computes a limit
unfoldable pub use Rattle.trig.specs.Limits.{sin_limit, cos_drop}
