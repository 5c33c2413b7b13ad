-- `trig::parted` meets its contract. Assumes nothing.
use lib.Ieee.{of_bits}
use Rattle.trig.specs.Trig.{parted_of}
use Rattle.trig.proofs.parted.Goals as goal

pub returns : goal.returns
unfolding parted_of of_bits
returns c = rw (c.from_u32-low.ensures, c.from_u32-high.ensures)
