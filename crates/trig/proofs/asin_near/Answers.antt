-- `trig::asin_near` meets its contract. Assumes nothing.
use mathlib.Core.Path.{refl}
use lib.Ieee.{of_bits, neg}
use Rattle.trig.specs.Trig.{asin_near}
use Rattle.trig.proofs.asin_near.Goals as goal

pub returns : goal.returns
unfolding asin_near of_bits neg
returns c = refl
