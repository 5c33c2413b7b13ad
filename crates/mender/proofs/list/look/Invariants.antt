-- `mender::list::look` meets its contract. Assumes nothing.
use Rattle.records.specs.Record.{count}
use Rattle.mender.proofs.Plans.{Planned}
use Rattle.mender.proofs.list.look.Given as goal

abbrev pub invariant-loop-k : goal.invariant-loop-k
invariant-loop-k l = Planned l.list l.tolerance (count l.list) l.paths l.lines l.k
