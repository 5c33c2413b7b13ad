-- `sheets::points::write_new` meets its contract. Assumes nothing.
use native.Mathlib.Omega.{arith}
use Rattle.sheets.proofs.Laws.{widened_none, widened_next}
use Rattle.sheets.proofs.points.write_new.Goals as goal

pub loop-i-init : goal.loop-i-init
loop-i-init c = widened_none _ _ _

pub loop-i-preserved : goal.loop-i-preserved
loop-i-preserved c = widened_next c.loop-i.invariant c.requires.n_in_bounds c.requires.n_in_bounds_2 (omega arith) c.put_point.ensures
