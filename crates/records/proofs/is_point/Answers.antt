-- `records::is_point` meets its contract. Assumes nothing.
use Rattle.records.specs.Record.{is_point}
use Rattle.records.proofs.is_point.Goals as goal

pub returns : goal.returns
unfolding is_point
returns c = rw (c.key_of.ensures, c.key_of-2.ensures)
