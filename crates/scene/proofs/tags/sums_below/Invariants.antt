-- `scene::tags::sums_below` meets its contract: so far the sums are those before the place reached. Assumes nothing.
use Rattle.std.proofs.Common.{◌≡◌, ◌-◌, ◌≤◌}
use Rattle.scene.specs.Tags.{sums_below}
use Rattle.scene.proofs.tags.sums_below.Given as goal

abbrev pub invariant-loop-k : goal.invariant-loop-k
invariant-loop-k l = (l.k ≤ l.place) × (l.sums ≡ sums_below l.word l.k)

abbrev pub decreases-loop-k : goal.decreases-loop-k
decreases-loop-k l = l.place - l.k
