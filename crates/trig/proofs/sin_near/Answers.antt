-- `trig::sin_near` meets its contract. Assumes nothing.
use mathlib.Core.Path.{refl}
use lib.Ieee.{of_bits, neg}
use Rattle.trig.specs.Trig.{sin_near}
use Rattle.trig.proofs.sin_near.Goals as goal

pub returns : goal.returns
unfolding sin_near of_bits neg
returns c = refl
