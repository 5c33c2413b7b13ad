-- `scene::tags::tag_sums` meets its contract. Assumes nothing.
use Rattle.std.proofs.Common.{refl}
use Rattle.scene.specs.Tags.{tag_sums}
use Rattle.scene.proofs.tags.tag_sums.Goals as goal

pub returns : goal.returns
unfolding tag_sums
returns c = refl
