-- `trig::quarters` meets its contract. Assumes nothing.
use lib.Ieee.{of_bits, neg}
use Rattle.numbers.specs.Whole.{part_of}
use Rattle.trig.specs.Trig.{quarters_of}
use Rattle.trig.proofs.quarters.Goals as goal

pub returns : goal.returns
unfolding quarters_of part_of of_bits neg
returns c = rw c.whole_part-k.ensures
