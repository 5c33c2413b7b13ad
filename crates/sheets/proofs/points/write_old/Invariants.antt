-- `sheets::points::write_old` meets its contract. Assumes nothing.
use Rattle.sheets.proofs.Laws.{Narrowed}
use Rattle.sheets.proofs.points.write_old.Given as goal

abbrev pub invariant-loop-i : goal.invariant-loop-i
invariant-loop-i l = Narrowed l.points l.n l.initial.out l.out l.i
