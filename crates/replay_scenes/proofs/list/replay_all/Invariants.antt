-- `replay_scenes::list::replay_all` is safe: no more scenes differ than are counted. Assumes nothing.
use Rattle.std.proofs.Common.{◌≤◌}
use Rattle.replay_scenes.proofs.list.replay_all.Given as goal

abbrev pub invariant-loop-count : goal.invariant-loop-count
invariant-loop-count g l = l.differ ≤ l.count
