-- `spiral::euler::espc_inverse` meets its contract. Assumes nothing.
use lib.Ieee.{neg, of_bits, round}
use Rattle.spiral.specs.Euler.{espc_inverse}
use Rattle.spiral.proofs.euler.espc_inverse.Goals as goal

pub returns-then-y : goal.returns-then-y
unfolding espc_inverse neg of_bits round
returns-then-y c = rw (c.if-y.true, c.asin.ensures)

pub returns-then-y-2 : goal.returns-then-y-2
unfolding espc_inverse neg of_bits round
returns-then-y-2 c = rw (c.if-y.false, c.if-y-2.true, c.near_inverse.ensures)

pub returns-then-y-3 : goal.returns-then-y-3
unfolding espc_inverse neg of_bits round
returns-then-y-3 c = rw (c.if-y.false, c.if-y-2.false, c.if-y-3.true, c.quad_inverse.ensures)

pub returns : goal.returns
unfolding espc_inverse neg of_bits round
returns c = rw (c.if-y.false, c.if-y-2.false, c.if-y-3.false, c.quad_inverse-2.ensures)
