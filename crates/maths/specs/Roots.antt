-- What crate `roots` defines and promises, passed on shut.
pub use Rattle.roots.specs.Root.{sqrt_of, cbrt_of, two_thirds_of, hypot_of, nearest_root}
pub use Rattle.roots.specs.Nearest.{Nearest}
pub use Rattle.roots.specs.RootLaws.{nearest_is, nearest_only, past_largest}
pub use Rattle.roots.specs.Rules.{sqrt_nearest, sqrt_nan, sqrt_below_zero, sqrt_infinity, sqrt_zero, sqrt_only, cbrt_nearest, cbrt_nan, cbrt_infinity, cbrt_zero, cbrt_only, two_thirds_nearest, two_thirds_nan, two_thirds_below_zero, two_thirds_infinity, two_thirds_zero, two_thirds_only, hypot_nearest, hypot_overflow, hypot_infinity, hypot_infinity_2, hypot_nan, hypot_nan_2, hypot_turned, hypot_zeros, hypot_only}
pub use Rattle.roots.specs.Bounds.{sqrt_at_most, sqrt_small, sqrt_least, hypot_small, hypot_unsigned}
