-- `spiral::euler::error_sum` meets its contract. Assumes nothing.
use mathlib.Core.Path.{refl}
use lib.Ieee.{of_bits, round}
use Rattle.spiral.specs.Judged.{error_sum}
use Rattle.spiral.proofs.euler.error_sum.Goals as goal

pub returns : goal.returns
unfolding error_sum of_bits round
returns c = refl
