-- `trig::cos_near` meets its contract. Assumes nothing.
use mathlib.Core.Path.{refl}
use lib.Ieee.{of_bits, neg}
use Rattle.trig.specs.Trig.{cos_near}
use Rattle.trig.proofs.cos_near.Goals as goal

pub returns : goal.returns
unfolding cos_near of_bits neg
returns c = refl
