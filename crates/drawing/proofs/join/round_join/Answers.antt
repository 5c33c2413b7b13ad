-- `drawing::join::round_join` meets its contract. Assumes nothing.
use lib.Ieee.{of_bits, round}
use Rattle.drawing.specs.Join.{round_by, round_events}
use Rattle.drawing.specs.PageLaws.{then}
use Rattle.drawing.proofs.join.round_join.Goals as goal

pub returns-then-b : goal.returns-then-b
unfolding round_events round_by of_bits round
returns-then-b c =
    rw (c.if-b.true, ← c.atan2.ensures, ← c.abs-angle.ensures) (then c.flatten_arc-first.ensures c.output_line_with_transform.ensures)

pub returns : goal.returns
unfolding round_events round_by of_bits round
returns c =
    rw (c.if-b.false, ← c.atan2.ensures, ← c.abs-angle.ensures) (then c.flatten_arc-first-2.ensures c.output_line_with_transform-2.ensures)
