-- `sheets::points::write_old` meets its contract. Assumes nothing.
use mathlib.Core.Path.{refl}
use native.Mathlib.Omega.{arith}
use Rattle.sheets.proofs.Laws.{narrowed_none, narrowed_next, back_at}
use Rattle.sheets.proofs.points.write_old.Goals as goal

pub loop-i-init : goal.loop-i-init
loop-i-init c = narrowed_none _ _ _

pub joined-requires : goal.joined-requires
joined-requires c =
    record { x_value = back_at c.args.points.now _ c.requires.points_value c.requires.n_in_bounds _ (omega arith); y_value = back_at c.args.points.now _ c.requires.points_value c.requires.n_in_bounds _ (omega arith) }

pub loop-i-preserved : goal.loop-i-preserved
loop-i-preserved c = narrowed_next c.loop-i.invariant c.requires.n_in_bounds c.requires.n_in_bounds_2 (omega arith) c.joined.ensures refl
