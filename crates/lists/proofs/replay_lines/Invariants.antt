-- `lists::replay_lines` is safe: no more lines differ than are counted. Assumes nothing.
use Rattle.std.proofs.Common.{◌≤◌}
use Rattle.lists.proofs.replay_lines.Given as goal

abbrev pub invariant-loop-count : goal.invariant-loop-count
invariant-loop-count g l = l.differ ≤ l.count
