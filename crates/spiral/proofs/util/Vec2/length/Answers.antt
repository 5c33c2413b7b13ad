-- `spiral::util::Vec2::length` meets its contract. Assumes nothing.
use Rattle.spiral.specs.Util.{length_of}
use Rattle.spiral.proofs.util.Vec2.length.Goals as goal

pub returns : goal.returns
unfolding length_of
returns c = c.hypot.ensures
