-- `spiral::euler::EulerParams::eval_th` meets its contract. Assumes nothing.
use mathlib.Core.Path.{refl}
use lib.Ieee.{of_bits, round}
use Rattle.spiral.specs.Euler.{eval_th}
use Rattle.spiral.proofs.euler.EulerParams.eval_th.Goals as goal

pub returns : goal.returns
unfolding eval_th of_bits round
returns c = refl
