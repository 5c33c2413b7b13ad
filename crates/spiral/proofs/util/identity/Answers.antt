-- `spiral::util::identity` meets its contract. Assumes nothing.
use mathlib.Core.Path.{refl}
use lib.Ieee.{of_bits, round}
use Rattle.spiral.specs.Util.{identity_of}
use Rattle.spiral.proofs.util.identity.Goals as goal

pub returns : goal.returns
unfolding identity_of of_bits round
returns c = refl
