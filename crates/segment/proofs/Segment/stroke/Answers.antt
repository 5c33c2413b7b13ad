-- `segment::Segment::stroke` meets its contract. Assumes nothing.
use lib.Ieee.{of_bits, round}
use Rattle.drawing.specs.PageLaws.{then}
use Rattle.segment.specs.Segment.{stroke_events}
use Rattle.segment.proofs.Segment.stroke.Goals as goal

pub returns : goal.returns
unfolding stroke_events of_bits round
returns c = rw (← c.tangents_of-t.ensures, ← c.edges_of-e.ensures) (then c.draw_sides-sides.ensures c.draw_end.ensures)
