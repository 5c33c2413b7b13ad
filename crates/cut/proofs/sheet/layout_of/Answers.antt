-- `cut::sheet::layout_of` meets its contract. Assumes nothing.
use mathlib.Core.Path.{refl}
use Rattle.cut.specs.Sheet.{layout_by}
use Rattle.cut.proofs.sheet.layout_of.Goals as goal

pub returns : goal.returns
unfolding layout_by
returns c = refl
