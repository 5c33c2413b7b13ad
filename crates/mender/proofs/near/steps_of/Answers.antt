-- `mender::near::steps_of` meets its contract. Assumes nothing.
use Prim.Native.Nat.{ℕ, zero, suc, ◌+◌, ◌-◌, ◌*◌, ◌^◌}
use mathlib.Core.Path.{◌≡◌, refl}
use native.Mathlib.Omega.{arith}
use Rattle.mender.specs.Near.{steps_of, steps}
use Rattle.mender.proofs.near.steps_of.Goals as goal

none : (x t : ℕ) → x ≡ 0 → t * 2 ^ 0 ≡ steps_of x t
unfolding steps_of
none x t e = rw e

some : (x t : ℕ) → (x ≡ 0 → ⊥) → (8388608 + t) * 2 ^ (x - 1) ≡ steps_of x t
unfolding steps_of
some zero t h = absurd (h refl)
some (suc x) t h = let e : suc x - 1 ≡ x = omega arith in rw e

pub returns-then-exponent-eq0 : goal.returns-then-exponent-eq0
unfolding steps
returns-then-exponent-eq0 c = none _ _ c.if-exponent-eq0.true

pub returns-else-exponent-eq0 : goal.returns-else-exponent-eq0
unfolding steps
returns-else-exponent-eq0 c = some _ _ c.if-exponent-eq0.false
