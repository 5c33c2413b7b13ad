-- `mender::list::write` meets its contract. Assumes nothing.
use Rattle.records.specs.Record.{count}
use Rattle.mender.proofs.Plans.{Wrote}
use Rattle.mender.proofs.list.write.Given as goal

abbrev pub invariant-loop-k : goal.invariant-loop-k
invariant-loop-k l = Wrote l.list l.tolerance (count l.list) l.initial.room l.initial.report l.room l.report l.done l.k
