-- `mender::list::look` meets its contract. Assumes nothing.
use native.Mathlib.Omega.{arith}
use Rattle.mender.proofs.Plans.{none_planned, plan_more}
use Rattle.mender.proofs.list.look.Goals as goal

pub loop-k-init : goal.loop-k-init
loop-k-init c = none_planned _ _ _

pub loop-k-preserved : goal.loop-k-preserved
loop-k-preserved c =
    plan_more c.plan_at-here.result.paths c.plan_at-here.result.lines c.loop-k.invariant c.loop-k-test.true c.plan_at-here.ensures.0 c.plan_at-here.ensures.1

pub overflow_add-paths : goal.overflow_add-paths
overflow_add-paths c =
    let m = plan_more c.plan_at-here.result.paths c.plan_at-here.result.lines c.loop-k.invariant c.loop-k-test.true c.plan_at-here.ensures.0 c.plan_at-here.ensures.1 in
    omega (arith, m.few_paths, m.within)

pub overflow_add-lines : goal.overflow_add-lines
overflow_add-lines c = let m = loop-k-preserved c in omega (arith, m.few_lines, m.within)
