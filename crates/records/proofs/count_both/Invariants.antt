-- `records::count_both` meets its contract: each tally is that of the records passed. Assumes nothing.
use Rattle.records.specs.Record.{is_point}
use Rattle.records.proofs.Tallies.{Counted}
use Rattle.records.proofs.count_both.Given as goal

abbrev pub invariant-loop-k : goal.invariant-loop-k
invariant-loop-k l =
    Counted (is_point l.path l.line.x l.line.y) 2 l.list l.k l.starts0
    × Counted (is_point l.path l.line.x l.line.y) 4 l.list l.k l.ends0
    × Counted (is_point l.path l.line.z l.line.w) 2 l.list l.k l.starts1
    × Counted (is_point l.path l.line.z l.line.w) 4 l.list l.k l.ends1
