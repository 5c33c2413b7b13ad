-- `spiral::euler::CubicParams::from_points_derivs` meets its contract. Assumes nothing.
use mathlib.Core.Path.{refl}
use lib.Ieee.{of_bits, round, lt}
use Rattle.spiral.specs.Judged.{unscaled}
use Rattle.spiral.proofs.euler.CubicParams.from_points_derivs.Goals as goal

pub returns : goal.returns
unfolding of_bits round lt
returns c = unscaled _ _ _ refl c.judged.ensures
