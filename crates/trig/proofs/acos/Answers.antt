-- `trig::acos` meets its contract. Assumes nothing.
use mathlib.Core.Path.{sym, ap, ◌∙◌}
use lib.Ieee.{Float, of_bits, le}
use Rattle.trig.specs.Trig.{acos_of, one}
use Rattle.trig.proofs.acos.Goals as goal

pub returns-else-a : goal.returns-else-a
unfolding acos_of of_bits
returns-else-a c = rw (ap (λ (s : Float). le s one) (sym c.abs-a.ensures) ∙ c.if-a.false)
