-- `scene::tags::compute_tag_monoid` meets its contract. Assumes nothing.
use Rattle.std.proofs.Common.{arith}
use Rattle.std.proofs.lemmas.Grind.{common_steps}
use Rattle.scene.specs.Tags.{tag_of, tag_in}
use Rattle.scene.proofs.tags.compute_tag_monoid.Goals as goal

pub returns-in_err-word : goal.returns-in_err-word
unfolding tag_of tag_in
returns-in_err-word c = grind (arith, common_steps)

pub returns : goal.returns
unfolding tag_of tag_in
returns c = grind (arith, common_steps)
