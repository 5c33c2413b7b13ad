-- `spiral::euler::error_ratio` meets its contract. Assumes nothing.
use lib.Ieee.{of_bits, round}
use Rattle.spiral.specs.Euler.{error_ratio}
use Rattle.spiral.specs.Judged.{stands_itself}
use Rattle.spiral.proofs.euler.error_ratio.Goals as goal

pub returns-then-cth0-cth1 : goal.returns-then-cth0-cth1
unfolding error_ratio of_bits round
returns-then-cth0-cth1 c = rw (← c.cos-cth1.ensures, ← c.cos-cth0.ensures, c.if-cth0-cth1.true) (stands_itself _ _ _)

pub returns : goal.returns
unfolding error_ratio of_bits round
returns c = rw (← c.cos-cth1.ensures, ← c.cos-cth0.ensures, c.if-cth0-cth1.false) c.fitted_error.ensures
