-- `hpgl::rounding::size_of` meets its contract. Assumes nothing.
use mathlib.Core.Path.{◌∙◌, ap}
use Prim.Native.Nat.{◌+◌}
use lib.Ieee.Nearest.{closest}
use Rattle.hpgl.specs.Bits.{size_low, size_high, unit_is}
use Rattle.hpgl.proofs.rounding.size_of.Goals as goal

pub returns-then-field-lt126 : goal.returns-then-field-lt126
returns-then-field-lt126 c = size_low c.args.field c.args.digits c.if-field-lt126.true

pub returns : goal.returns
returns c = c.nearest_of.ensures ∙ ap (closest (8388608 + c.args.digits)) (unit_is c.args.field c.if-field-lt126.false) ∙ size_high c.args.field c.args.digits c.if-field-lt126.false
