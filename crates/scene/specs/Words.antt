-- A read of a lent list of words. Definitions only.
use Rattle.std.specs.Prelude.{ℕ, cond, List, length, nat_lt, slice_index, Ok, Err}
use Rattle.refusals.specs.Refusals.{Read}
use Rattle.refusals.specs.declared.Refusal.TheVariants as refusal

-- what stands at a place, if the place lies inside
unfoldable pub word_at : List ℕ → ℕ → Read ℕ
word_at ws at = cond (nat_lt at (length ws)) (Ok (slice_index ws at)) (Err refusal.Outside)
