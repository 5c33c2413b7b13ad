-- `flatten::boxes::PathBox::fresh` meets its contract. Assumes nothing.
use Rattle.std.proofs.Common.{refl}
use Rattle.drawing.specs.Sheet.{empty_box}
use Rattle.flatten.specs.Boxes.{fresh_box}
use Rattle.flatten.proofs.boxes.PathBox.fresh.Goals as goal

pub returns : goal.returns
unfolding fresh_box empty_box
returns c = refl
