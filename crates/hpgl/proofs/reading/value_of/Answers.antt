-- `hpgl::reading::value_of` meets its contract. Assumes nothing.
use Rattle.numbers.proofs.Integers.{plus, minus}
use mathlib.Core.Path.{◌∙◌}
use Prim.Native.Nat.{◌+◌}
use native.Mathlib.Numerals.{add-one}
use native.Mathlib.Omega.{arith}
use Rattle.hpgl.specs.Reading.{value_of}
use Rattle.hpgl.proofs.reading.value_of.Goals as goal

pub returns-then-s : goal.returns-then-s
unfolding value_of
returns-then-s c = minus (c.args.w + 1) (omega arith) ∙ rw (c.if-s.true, add-one c.args.w)

pub returns : goal.returns
unfolding value_of
returns c = plus (c.args.w + 1) (omega arith) ∙ rw (c.if-s.false, add-one c.args.w)
