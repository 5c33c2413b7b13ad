-- `curve::draw_side` meets its contract. Assumes nothing.
use mathlib.Core.Path.{sym, ◌∙◌}
use lib.Ieee.{of_bits, round}
use Rattle.drawing.specs.PageLaws.{draws, nothing}
use Rattle.curve.specs.Curve.{side_events}
use Rattle.curve.proofs.OneLine.{one_line_side}
use Rattle.curve.proofs.draw_side.Goals as goal

pub returns-then-is_point : goal.returns-then-is_point
unfolding side_events
returns-then-is_point c = draws nothing (rw (← c.is_point.ensures, c.if-is_point.true))

pub returns-then-is_line : goal.returns-then-is_line
unfolding of_bits round
returns-then-is_line c =
    draws c.side_line.ensures
    (sym (one_line_side c.args.side (sym c.is_point.ensures ∙ c.if-is_point.false)
    (rw (← c.first_tip-first.ensures, ← c.tip_at.ensures) (sym c.is_line.ensures ∙ c.if-is_line.true))))
