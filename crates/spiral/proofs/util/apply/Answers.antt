-- `spiral::util::apply` meets its contract. Assumes nothing.
use mathlib.Core.Path.{refl}
use Rattle.spiral.specs.Util.{apply_of}
use Rattle.spiral.proofs.util.apply.Goals as goal

pub returns : goal.returns
unfolding apply_of
returns c = refl
