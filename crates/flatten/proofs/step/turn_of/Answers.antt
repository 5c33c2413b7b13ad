-- `flatten::step::turn_of` meets its contract. Assumes nothing.
use Rattle.flatten.specs.Step.{turn_of}
use Rattle.flatten.proofs.step.turn_of.Goals as goal

pub returns-in-Ok : goal.returns-in-Ok
unfolding turn_of
returns-in-Ok c = rw (c.in-Ok.is, c.next_index.ensures, c.one_less.ensures, c.change_of-change.ensures)
