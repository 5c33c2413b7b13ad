-- `records::is_bad` meets its contract. Assumes nothing.
use Rattle.records.specs.Numbers.{bad_bits}
use Rattle.records.proofs.is_bad.Goals as goal

pub returns : goal.returns
returns c = bad_bits _
