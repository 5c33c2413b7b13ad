-- Where a caller puts the tags of his own: a transform tag and a style tag, then what commands wrote, then a path tag. Assumes nothing.
use Rattle.std.specs.Prelude.{◌≡◌}
use Rattle.std.proofs.Common.{arith}
use Rattle.scene.specs.Tags.{tag_sums, plus}
use Rattle.scene.specs.Fresh.{byte_of, sums_to}
use Rattle.watertight.specs.Fill.{Call}
use Rattle.outlines.specs.Placing.{tag_words, data_at, transform_at, style_at}

-- behind them the first transform and the first style hold, and the data begins at its base
pub record Begins (c : Call) : Type 0 where
  pub data_base : data_at c 2 ≡ c.layout.data_base
  pub first_transform : transform_at c 2 ≡ 0
  pub first_style : style_at c 2 ≡ 0

pub sheet_begins : (c : Call) → byte_of (tag_words c) 0 ≡ 0x20 → byte_of (tag_words c) 1 ≡ 0x40 → Begins c
unfolding sums_to plus tag_sums
sheet_begins c e f = record { data_base = rw (e, f) (omega arith); first_transform = rw (e, f); first_style = rw (e, f) }
