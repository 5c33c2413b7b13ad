-- `trig::curve` meets its contract. Assumes nothing.
use mathlib.Core.Path.{◌≡◌, refl}
use mathlib.Core.Bool.{true, false}
use Prim.Native.Nat.{ℕ}
use lib.IntN.{ℤ, pos, negsuc}
use native.Mathlib.Nat.{zero-add}
use lib.Ieee.{Float, nan, inf, fin, of_bits, lt, le, eq}
use Rattle.trig.specs.Trig.{far_of, reduced_of}
use Rattle.trig.proofs.Below.{below}
use Rattle.trig.proofs.curve.Goals as goal

-- what is at most a finite number is below infinity
most : (a : Float) (m : ℕ) (e : ℤ) → le a (fin false m e) ≡ true → lt a (inf false) ≡ true
unfolding le lt eq
most nan m e h = h
most (inf true) m e h = refl
most (inf false) m e h = h
most (fin s n d) m e h = refl

pub returns-then-a : goal.returns-then-a
unfolding reduced_of of_bits
returns-then-a c = rw (below c.args.a 25 (negsuc 4) c.if-a.true, c.near.ensures, c.if-a.true, zero-add)

pub returns-then-a-2 : goal.returns-then-a-2
unfolding reduced_of far_of of_bits
returns-then-a-2 c = rw (most c.args.a 1 (pos 10) c.if-a-2.true, c.turns.ensures, c.quarters.ensures, c.if-a.false, c.if-a-2.true)

pub returns-then-a-3 : goal.returns-then-a-3
unfolding reduced_of far_of of_bits
returns-then-a-3 c = rw (c.if-a-3.true, c.turns-then-a-3.ensures, c.large.ensures, c.if-a.false, c.if-a-2.false)

pub returns-else-a-3 : goal.returns-else-a-3
unfolding of_bits
returns-else-a-3 c = rw c.if-a-3.false
