-- `mender::list::plan_at` meets its contract. Assumes nothing.
use mathlib.Core.Path.{sym, ap, ◌∙◌}
use lib.ListN.{length}
use Rattle.mender.specs.ReportLaws.{nothing_at, new_at, said_six}
use Rattle.mender.proofs.list.plan_at.Goals as goal

pub returns-then-seen : goal.returns-then-seen
returns-then-seen c =
    let e = nothing_at _ c.args.tolerance _ c.word_at-path.ensures c.seen.ensures c.if-seen.true in
    (sym (ap length e.0), sym (ap length e.1))

pub returns : goal.returns
returns c =
    let e = new_at _ _ _ c.case_of.result c.word_at-path.ensures c.seen.ensures c.if-seen.false c.case_of.ensures in
    (sym (ap length e.0 ∙ said_six _ _), c.lines_of-lines.ensures _ ∙ sym (ap length e.1))
