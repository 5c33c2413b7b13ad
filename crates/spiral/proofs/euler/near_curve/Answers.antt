-- `spiral::euler::near_curve` meets its contract. Assumes nothing.
use lib.Ieee.{of_bits, round}
use Rattle.spiral.specs.Euler.{near_curve}
use Rattle.spiral.proofs.euler.near_curve.Goals as goal

pub returns : goal.returns
unfolding near_curve of_bits round
returns c = rw (c.sqrt-2.ensures, c.abs.ensures, c.sqrt.ensures)
