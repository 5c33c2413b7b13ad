-- `numbers::words::abs` meets its contract. Assumes nothing.
use Rattle.std.proofs.Common.{T, sym, subst}
use lib.Ieee.{of_bits}
use Rattle.numbers.proofs.Bits.{yes, no, size_above, size_below}
use Rattle.numbers.proofs.words.abs.Goals as goal

pub returns-then-x : goal.returns-then-x
unfolding of_bits
returns-then-x c = size_above c.args.x (yes c.if-x.true)

pub returns-else-x : goal.returns-else-x
unfolding of_bits
returns-else-x c = size_below c.args.x (subst T (sym c.well_formed.0.1) tt) (no c.if-x.false)
