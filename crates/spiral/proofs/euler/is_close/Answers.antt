-- `spiral::euler::is_close` meets its contract. Assumes nothing.
use lib.Ieee.{of_bits, round}
use Rattle.spiral.specs.Judged.{is_close}
use Rattle.spiral.proofs.euler.is_close.Goals as goal

pub returns-then-abs : goal.returns-then-abs
unfolding is_close of_bits round
returns-then-abs c = rw (← c.abs.ensures, ← c.abs-then-abs.ensures, c.if-abs.true)

pub returns : goal.returns
unfolding is_close of_bits round
returns c = rw (← c.abs.ensures, c.if-abs.false)
