-- `spiral::euler::near_inverse` meets its contract. Assumes nothing.
use lib.Ieee.{of_bits, round}
use Rattle.spiral.specs.Euler.{near_inverse}
use Rattle.spiral.proofs.euler.near_inverse.Goals as goal

pub returns : goal.returns
unfolding near_inverse of_bits round
returns c = rw (c.cbrt.ensures, c.copysign-u.ensures, c.two_thirds.ensures, c.abs.ensures)
