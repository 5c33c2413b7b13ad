-- `spiral::util::Vec2::length_squared` meets its contract. Assumes nothing.
use Rattle.spiral.specs.Util.{length_squared_of}
use Rattle.spiral.proofs.util.Vec2.length_squared.Goals as goal

pub returns : goal.returns
unfolding length_squared_of
returns c = c.dot.ensures
