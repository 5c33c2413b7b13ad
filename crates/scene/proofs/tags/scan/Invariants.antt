-- `scene::tags::scan` meets its contract. After i turns the first i prefixes are filled, the words behind are as lent, and the sums are those of the next prefix.
-- Assumes nothing.
use Rattle.std.proofs.Common.{◌-◌, ◌≤◌}
use Rattle.scene.proofs.Laws.{Filling}
use Rattle.scene.proofs.tags.scan.Given as goal

abbrev pub invariant-loop-i : goal.invariant-loop-i
invariant-loop-i l = (l.i ≤ l.n) × Filling l.scene l.base l.initial.prefixes l.prefixes l.sums l.i

abbrev pub decreases-loop-i : goal.decreases-loop-i
decreases-loop-i l = l.n - l.i
