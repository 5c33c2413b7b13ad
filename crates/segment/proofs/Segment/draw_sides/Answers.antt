-- `segment::Segment::draw_sides` meets its contract. Assumes nothing.
use Rattle.drawing.specs.PageLaws.{then}
use Rattle.segment.specs.Segment.{sides_events}
use Rattle.segment.proofs.Segment.draw_sides.Goals as goal

pub returns : goal.returns
unfolding sides_events
returns c =
    rw (← c.add-start.ensures, ← c.add-end.ensures, ← c.sub-back_start.ensures, ← c.sub-back_end.ensures)
    (then c.flatten_euler-first.ensures c.flatten_euler.ensures)
