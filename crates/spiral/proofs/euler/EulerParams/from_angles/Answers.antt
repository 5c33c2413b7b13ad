-- `spiral::euler::EulerParams::from_angles` meets its contract. Assumes nothing.
use mathlib.Core.Path.{refl}
use lib.Ieee.{of_bits, round}
use Rattle.spiral.specs.Euler.{from_angles}
use Rattle.spiral.proofs.euler.EulerParams.from_angles.Goals as goal

pub returns : goal.returns
unfolding from_angles of_bits round
returns c = refl
