-- `sheets::points::write_new` meets its contract. Assumes nothing.
use Rattle.sheets.proofs.Laws.{Widened}
use Rattle.sheets.proofs.points.write_new.Given as goal

abbrev pub invariant-loop-i : goal.invariant-loop-i
invariant-loop-i l = Widened l.points l.n l.initial.out l.out l.i
