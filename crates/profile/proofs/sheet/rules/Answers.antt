-- `profile::sheet::rules` meets its contract: the tags before the one reached break no rule, and the trail is theirs. Assumes nothing.
use Rattle.std.proofs.Common.{sym, ◌∙◌, subst, add-one, arith}
use Rattle.profile.specs.Walk.{TrailAt}
use Rattle.profile.proofs.Passes.{none_fine, one_fine, stops_against, no_trail_at, trail_small, step_on, step_breaks, at_end}
use Rattle.profile.proofs.sheet.rules.Goals as goal

pub loop-i-init : goal.loop-i-init
loop-i-init c = (omega arith, subst (TrailAt _ 0) (sym c.no_trail-trail.ensures) (no_trail_at _), none_fine _)

pub step_at-requires : goal.step_at-requires
step_at-requires c =
    let l = c.loop-i in record { small = trail_small _ l.i _ l.invariant.1 (omega arith); was_read = c.requires.all_read l.i (omega arith) }

pub returns-in-Err : goal.returns-in-Err
returns-in-Err c = let l = c.loop-i in stops_against _ l.i _ l.invariant.2 (omega arith) (step_breaks _ l.i _ l.invariant.1 _ c.requires.total_value _ (sym c.step_at.ensures ∙ c.in-Err.is))

pub loop-i-preserved : goal.loop-i-preserved
loop-i-preserved c =
    let l = c.loop-i in
    let k = step_on _ l.i _ l.invariant.1 _ c.requires.total_value _ (sym c.step_at.ensures ∙ c.in-Ok.is) in
    (omega arith, rw (add-one l.i) k.1, rw (add-one l.i) (one_fine _ l.i l.invariant.2 k.0))

pub returns : goal.returns
returns c = let l = c.loop-i in at_end _ l.i _ l.invariant.1 l.invariant.2 (omega arith)
