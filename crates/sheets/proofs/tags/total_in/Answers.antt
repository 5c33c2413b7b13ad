-- `sheets::tags::total_in` meets its contract. Assumes nothing.
use Rattle.sheets.proofs.Laws.{total_over, total_on, total_end}
use native.Mathlib.Omega.{arith}
use Rattle.sheets.proofs.tags.total_in.Goals as goal

pub returns-then-limit-sum : goal.returns-then-limit-sum
returns-then-limit-sum c = let a = c.args in total_over a.tags.now c.loop-tag.tag-index c.loop-tag.sum c.count_of-n.result a.limit (omega arith) c.loop-tag.invariant.2 c.loop-tag.invariant.1 c.count_of-n.ensures (omega arith)

pub loop-tag-preserved : goal.loop-tag-preserved
loop-tag-preserved c = let a = c.args in (omega arith, omega arith, total_on a.tags.now c.loop-tag.tag-index c.loop-tag.sum c.count_of-n.result (omega arith) c.loop-tag.invariant.2 c.count_of-n.ensures)

pub returns : goal.returns
returns c = let a = c.args in total_end a.tags.now c.loop-tag.tag-index c.loop-tag.sum a.limit (omega arith) c.loop-tag.invariant.2 c.loop-tag.invariant.1
