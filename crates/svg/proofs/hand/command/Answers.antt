-- `svg::hand::command` meets its contract: a command is drawn from behind the move, or from where the pen stood. Assumes nothing.
use mathlib.Core.Path.{refl, sym, ◌∙◌}
use mathlib.Core.Logic.{inl, inr}
use Rattle.std.specs.Prelude.{Ok}
use Rattle.pattern.specs.Commands.{outcome}
use Rattle.svg.proofs.Calls.{passed_on, restart_refused, group_drawn}
use Rattle.svg.proofs.hand.command.Goals.{then-restarts+in_ok-pen, else-restarts}
use Rattle.svg.proofs.hand.command.Goals as goal

pub returns-in_err-pen : goal.returns-in_err-pen
returns-in_err-pen c =
    let a = c.args in
    rw (passed_on _ _ c.from_residual.ensures.1)
    (restart_refused a.hand a.pen.now a.tags.now a.points.now _ _ (sym c.restarts.ensures ∙ c.if-restarts.true) c.in_err-pen.ensures refl)

pub returns-in_err-pen-2 : goal.returns-in_err-pen-2
returns-in_err-pen-2 c =
    let a = c.args in
    let s = c.if-restarts in
    rw (passed_on _ _ c.from_residual-in_err-pen-2.ensures.1)
    (group_drawn a.hand a.pen.now a.tags.now a.points.now (outcome (Ok tt) s.pen s.tags s.points) _
    (elim s.branch [
      | then-restarts+in_ok-pen w ↦ inl (sym c.restarts.ensures ∙ w.if-restarts.true, refl, rw (w.pen-is, w.tags-is, w.points-is) w.in_ok-pen.ensures)
      | else-restarts w ↦ inr (sym c.restarts.ensures ∙ w.if-restarts.false, rw (w.pen-is, w.tags-is, w.points-is) refl)
    ]) c.in_err-pen-2.ensures)

pub returns : goal.returns
returns c =
    let a = c.args in
    let s = c.if-restarts in
    group_drawn a.hand a.pen.now a.tags.now a.points.now (outcome (Ok tt) s.pen s.tags s.points) _
    (elim s.branch [
      | then-restarts+in_ok-pen w ↦ inl (sym c.restarts.ensures ∙ w.if-restarts.true, refl, rw (w.pen-is, w.tags-is, w.points-is) w.in_ok-pen.ensures)
      | else-restarts w ↦ inr (sym c.restarts.ensures ∙ w.if-restarts.false, rw (w.pen-is, w.tags-is, w.points-is) refl)
    ]) c.in_ok-pen-2.ensures
