-- `flatten::boxes::PathBox::changed` meets its contract. Assumes nothing.
use Rattle.flatten.specs.Boxes.{changed_of}
use Rattle.flatten.proofs.boxes.PathBox.changed.Goals as goal

pub returns : goal.returns
unfolding changed_of
returns c = rw (c.merged.ensures, c.marked.ensures)
