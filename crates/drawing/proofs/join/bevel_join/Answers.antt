-- `drawing::join::bevel_join` meets its contract. Assumes nothing.
use Rattle.drawing.specs.Join.{bevel_events}
use Rattle.drawing.specs.PageLaws.{nothing, draws}
use Rattle.drawing.proofs.join.bevel_join.Goals as goal
use Rattle.drawing.proofs.join.bevel_join.Goals.{then-eq-via-then-eq, then-eq-via-else-eq+then-eq-2}

pub returns-then-eq : goal.returns-then-eq
unfolding bevel_events
returns-then-eq c =
    elim c.then-eq.branch [
      | then-eq-via-then-eq w ↦ draws nothing (rw (← c.eq.ensures, w.if-eq.true))
      | then-eq-via-else-eq+then-eq-2 w ↦ draws nothing (rw (← c.eq.ensures, w.if-eq.false, ← w.eq-else-eq.ensures, w.if-eq-2.true))
    ]
