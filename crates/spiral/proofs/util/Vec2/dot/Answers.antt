-- `spiral::util::Vec2::dot` meets its contract. Assumes nothing.
use mathlib.Core.Path.{refl}
use Rattle.spiral.specs.Util.{dot_of}
use Rattle.spiral.proofs.util.Vec2.dot.Goals as goal

pub returns : goal.returns
unfolding dot_of
returns c = refl
