-- `spiral::euler::quad_inverse` meets its contract. Assumes nothing.
use lib.Ieee.{of_bits, round}
use Rattle.spiral.specs.Euler.{quad_inverse}
use Rattle.spiral.proofs.euler.quad_inverse.Goals as goal

pub returns : goal.returns
unfolding quad_inverse of_bits round
returns c = rw c.sqrt.ensures
