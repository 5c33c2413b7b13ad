-- `spiral::euler::stays` meets its contract. Assumes nothing.
use lib.Ieee.{of_bits, round}
use Rattle.spiral.specs.NoOffset.{unmoved}
use Rattle.spiral.proofs.euler.stays.Goals as goal

pub returns-then-p : goal.returns-then-p
unfolding unmoved of_bits round
returns-then-p c = rw (c.if-offset.true, c.if-th.true, c.if-p.true)

pub returns-else-p : goal.returns-else-p
unfolding unmoved of_bits round
returns-else-p c = rw (c.if-offset.true, c.if-th.true, c.if-p.false)

pub returns-else-th : goal.returns-else-th
unfolding unmoved of_bits round
returns-else-th c = rw (c.if-offset.true, c.if-th.false)

pub returns-else-offset : goal.returns-else-offset
unfolding unmoved of_bits round
returns-else-offset c = rw c.if-offset.false
