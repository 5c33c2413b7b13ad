-- `spiral::euler::integ_euler_10` meets its contract. Assumes nothing.
use mathlib.Core.Path.{refl}
use lib.Ieee.{of_bits, round}
use Rattle.spiral.specs.Euler.{integ_euler10}
use Rattle.spiral.proofs.euler.integ_euler_10.Goals as goal

pub returns : goal.returns
unfolding integ_euler10 of_bits round
returns c = refl
