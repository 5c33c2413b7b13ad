-- `drawing::join::miter_join` meets its contract. Assumes nothing.
use lib.Ieee.{of_bits, round}
use Rattle.drawing.specs.Join.{miter_events}
use Rattle.drawing.specs.PageLaws.{then}
use Rattle.drawing.proofs.join.miter_join.Goals as goal

pub returns-then-b : goal.returns-then-b
unfolding miter_events of_bits round
returns-then-b c =
    rw (← c.in_limit.ensures, c.if-in_limit.true, c.if-b.true, ← c.miter_point-tip.ensures)
    (then c.output_line_with_transform-first.ensures c.draw_sides.ensures)

pub returns-then-in_limit : goal.returns-then-in_limit
unfolding miter_events of_bits round
returns-then-in_limit c =
    rw (← c.in_limit.ensures, c.if-in_limit.true, c.if-b.false, ← c.miter_point-tip-then-in_limit.ensures)
    (then c.output_line_with_transform-first-then-in_limit.ensures c.draw_sides-then-in_limit.ensures)
