-- `flatten::step::stopped_at` meets its contract. Assumes nothing.
use Rattle.flatten.specs.Step.{turn_of}
use Rattle.flatten.proofs.step.stopped_at.Goals as goal

pub returns : goal.returns
unfolding turn_of
returns c = simp (c.change_of-change.ensures, c.empty-none.ensures)
