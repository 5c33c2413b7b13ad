-- `scene::tags::PathMonoid::new` meets its contract. Assumes nothing.
use Rattle.scene.specs.Tags.{word_sums}
use Rattle.scene.proofs.tags.PathMonoid.new.Goals as goal

pub returns : goal.returns
unfolding word_sums
returns c = c.sums_below.ensures
