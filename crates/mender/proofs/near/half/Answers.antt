-- `mender::near::half` meets its contract. Assumes nothing.
use Prim.Native.Nat.{ℕ, zero, suc, ◌-◌, ◌/◌}
use mathlib.Core.Path.{◌≡◌, refl}
use native.Mathlib.Omega.{arith}
use Rattle.mender.specs.declared.near.Scaled.{Scaled}
use Rattle.mender.specs.Scaled.{halved}
use Rattle.mender.proofs.near.half.Goals as goal

none : (m s : ℕ) → s ≡ 0 → ◌≡◌ {A = Scaled} (record { digits = m / 2; shift = 0 }) (halved m s)
unfolding halved
none m s e = rw e

some : (m s : ℕ) → (s ≡ 0 → ⊥) → ◌≡◌ {A = Scaled} (record { digits = m; shift = s - 1 }) (halved m s)
unfolding halved
some m zero h = absurd (h refl)
some m (suc s) h = let e : suc s - 1 ≡ s = omega arith in rw e

pub returns-then-shift-eq0 : goal.returns-then-shift-eq0
returns-then-shift-eq0 c = none _ _ c.if-shift-eq0.true

pub returns-else-shift-eq0 : goal.returns-else-shift-eq0
returns-else-shift-eq0 c = some _ _ c.if-shift-eq0.false
