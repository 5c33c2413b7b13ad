-- `scene::tags::prefix_at` meets its contract. Assumes nothing.
use Rattle.std.proofs.Common.{le-ltb, lt-ltb}
use Rattle.scene.specs.Tags.{prefix_at}
use Rattle.scene.proofs.tags.prefix_at.Goals as goal

pub returns-then-n-prefixes : goal.returns-then-n-prefixes
unfolding prefix_at
returns-then-n-prefixes c = simp (lt-ltb _ _ c.if-n-prefixes.true)

pub returns-else-n-prefixes : goal.returns-else-n-prefixes
unfolding prefix_at
returns-else-n-prefixes c = simp (le-ltb _ _ c.if-n-prefixes.false)
