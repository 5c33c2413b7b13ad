-- `spiral::util::Vec2::atan2` meets its contract. Assumes nothing.
use Rattle.spiral.specs.Util.{angle_of}
use Rattle.spiral.proofs.util.Vec2.atan2.Goals as goal

pub returns : goal.returns
unfolding angle_of
returns c = c.atan2.ensures
