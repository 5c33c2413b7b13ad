-- `scene::tags::with_prefix` meets its contract. Assumes nothing.
use Rattle.std.proofs.Common.{arith}
use Rattle.std.proofs.lemmas.Grind.{common_steps}
use Rattle.scene.specs.Tags.{with_prefix}
use Rattle.scene.proofs.tags.with_prefix.Goals as goal

pub returns-then-tag_byte-eq0 : goal.returns-then-tag_byte-eq0
unfolding with_prefix
returns-then-tag_byte-eq0 c = grind (arith, common_steps)

pub returns-in_err-before : goal.returns-in_err-before
unfolding with_prefix
returns-in_err-before c = grind (arith, common_steps)

pub returns : goal.returns
unfolding with_prefix
returns c = grind (arith, common_steps)
