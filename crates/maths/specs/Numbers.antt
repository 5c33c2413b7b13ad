-- What crate `numbers` defines and promises, passed on shut.
pub use Rattle.numbers.specs.Words.{sign_of, signed, abs_of, copysign_of, half_of, half_units}
pub use Rattle.numbers.specs.Select.{min_of, max_of, clamp_of}
pub use Rattle.numbers.specs.Whole.{floor_of, ceil_of, span_of}
pub use Rattle.numbers.specs.WordsLaws.{abs_nan, abs_not_below, half_exact, plus_size}
pub use Rattle.numbers.specs.SelectLaws.{min_nan_left, min_nan_right, max_nan_left, max_nan_right, min_either, max_either, min_comm, max_comm, min_left, min_right, max_left, max_right, clamp_nan, clamp_within}
pub use Rattle.numbers.specs.Limits.{abs_small, abs_unsigned, abs_under, small_of_abs, max_least, slope_under}
pub use Rattle.numbers.specs.WholeLaws.{floor_signed, ceil_signed, ceil_unsigned, floor_exact, ceil_exact, ceil_nan, floor_neg, ceil_neg, floor_fits, ceil_fits, floor_signed_lem, ceil_signed_lem, ceil_unsigned_lem}
pub use Rattle.numbers.specs.Order.{lt_once}
pub use Rattle.numbers.specs.Rising.{floor_rises, ceil_rises, floor_above, ceil_below}
pub use Rattle.numbers.specs.CountLaws.{one_of_ceil}
pub use Rattle.numbers.specs.Only.{float_of_only, word_of_only, is_nan_only, is_negative_only, turned_only, abs_only, copysign_only, half_only, min_only, max_only, clamp_only, floor_only, ceil_only, floor_i32_only, ceil_i32_only, span_only, to_i32_only, to_u32_only, from_u32_only}
