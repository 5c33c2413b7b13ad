-- `trig::atan2` meets its contract. Assumes nothing.
use mathlib.Core.Path.{sym, ◌∙◌}
use borrow.Author.Rules.{rules}
use lib.Ieee.{of_bits}
use Rattle.trig.specs.Trig.{atan2_of}
use Rattle.trig.proofs.Direct.{atan2_direct}
use Rattle.trig.proofs.atan2.Goals.{then-is_nan-via-then-is_nan, then-is_nan-via-else-is_nan+then-is_nan-2}
use Rattle.trig.proofs.atan2.Goals as goal

pub returns-then-r-t : goal.returns-then-r-t
returns-then-r-t c = atan2_direct _ _ _ _ c.abs-a.ensures (search rules) c.atan_near-r.ensures c.if-r-t.true

pub returns-then-is_nan : goal.returns-then-is_nan
unfolding atan2_of of_bits
returns-then-is_nan c = elim c.then-is_nan.branch [
  | then-is_nan-via-then-is_nan w ↦ rw (sym c.is_nan.ensures ∙ w.if-is_nan.true)
  | then-is_nan-via-else-is_nan+then-is_nan-2 w ↦ rw (sym c.is_nan.ensures ∙ w.if-is_nan.false, sym w.is_nan-else-is_nan.ensures ∙ w.if-is_nan-2.true)
]
