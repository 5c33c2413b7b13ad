-- `numbers::whole::whole_part` meets its contract. Assumes nothing.
use lib.Ieee.{of_bits}
use Rattle.numbers.specs.Whole.{part_of}
use Rattle.numbers.proofs.Bits.{yes, positive}
use Rattle.numbers.proofs.Wholes.{as_unsigned}
use Rattle.numbers.proofs.whole.whole_part.Goals as goal

pub near-f-requires : goal.near-f-requires
unfolding of_bits
near-f-requires c = record { unsigned = positive c.args.x (yes c.if-x.true); small = yes c.if-x-2.true }

pub float_to_int-result : goal.float_to_int-result
unfolding of_bits
float_to_int-result c = (as_unsigned c.args.x c.near-f.result (yes c.if-x.true) (yes c.if-x-2.true) c.near-f.ensures).whole

pub returns-then-x-2 : goal.returns-then-x-2
unfolding of_bits part_of
returns-then-x-2 c =
    let a = as_unsigned c.args.x c.near-f.result (yes c.if-x.true) (yes c.if-x-2.true) c.near-f.ensures in
    rw (a.count, a.value)
