-- `replay_scenes::read_words` is safe and ends: the words stay as many as they were, and a run puts at least one. Assumes
-- nothing.
use Rattle.std.proofs.Common.{◌≡◌, ◌≤◌, ◌-◌, length}
use Rattle.replay_scenes.proofs.read_words.Given as goal

abbrev pub invariant-loop-at : goal.invariant-loop-at
invariant-loop-at g l = (length l.words ≡ length l.initial.words) × (l.at ≤ length l.words)

abbrev pub decreases-loop-at : goal.decreases-loop-at
decreases-loop-at g l = length l.initial.words - l.at
