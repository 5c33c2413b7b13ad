-- `trig::asin` meets its contract. Assumes nothing.
use mathlib.Core.Path.{sym, ap, ◌∙◌}
use lib.Ieee.{Float, of_bits, le}
use Rattle.trig.specs.Trig.{asin_of, one}
use Rattle.trig.proofs.asin.Goals as goal

pub returns-else-a : goal.returns-else-a
unfolding asin_of of_bits
returns-else-a c = rw (ap (λ (s : Float). le s one) (sym c.abs-a.ensures) ∙ c.if-a.false)
