-- `drawing::cap::square_cap` meets its contract. Assumes nothing.
use Rattle.drawing.specs.Cap.{square_cap}
use Rattle.drawing.specs.PageLaws.{then}
use Rattle.drawing.proofs.cap.square_cap.Goals as goal

pub returns : goal.returns
unfolding square_cap
returns c =
    rw (← c.add-p0.ensures, ← c.add-p1.ensures)
    (then c.output_line_with_transform-first.ensures (then c.output_line_with_transform-second.ensures c.output_line_with_transform.ensures))
