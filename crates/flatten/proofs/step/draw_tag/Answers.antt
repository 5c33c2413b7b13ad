-- `flatten::step::draw_tag` meets its contract. Assumes nothing.
use Rattle.std.proofs.Common.{eq-eqb, ne_eqb}
use Rattle.flatten.specs.Tag.{events_by, events_at}
use Rattle.flatten.specs.Step.{drawn_of}
use Rattle.flatten.proofs.Steps.{drew_none, drew_dried}
use Rattle.flatten.proofs.step.draw_tag.Goals as goal

pub returns-then-head-eq0 : goal.returns-then-head-eq0
unfolding events_at events_by
returns-then-head-eq0 c = rw (eq-eqb _ _ c.if-head-eq0.true) (drew_none _ _ _ _ c.empty-bbox.ensures)

pub returns-in-Ok : goal.returns-in-Ok
unfolding events_at
returns-in-Ok c =
    rw (ne_eqb _ _ c.if-head-eq0.false, ← c.read_drawing.ensures, c.in-Ok.is, c.dried.ensures)
    (drew_dried c.empty.ensures c.draw_shape.ensures)

pub returns-in-Err : goal.returns-in-Err
unfolding events_at drawn_of
returns-in-Err c =
    rw (ne_eqb _ _ c.if-head-eq0.false, ← c.read_drawing.ensures, c.in-Err.is)
