-- `trig::atan_near` meets its contract. Assumes nothing.
use mathlib.Core.Path.{refl}
use lib.Ieee.{of_bits, neg}
use Rattle.trig.specs.Trig.{atan_near}
use Rattle.trig.proofs.atan_near.Goals as goal

pub returns : goal.returns
unfolding atan_near of_bits neg
returns c = refl
