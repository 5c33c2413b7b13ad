-- `mender::near::low` meets its contract. Assumes nothing.
use Prim.Native.Nat.{ℕ, zero, suc, ◌%◌}
use mathlib.Core.Path.{◌≡◌, refl}
use Rattle.mender.specs.Scaled.{left_over}
use Rattle.mender.proofs.near.low.Goals as goal

none : (m s : ℕ) → s ≡ 0 → m % 2 ≡ left_over m s
unfolding left_over
none m s e = rw e

some : (m s : ℕ) → (s ≡ 0 → ⊥) → 0 ≡ left_over m s
unfolding left_over
some m zero h = absurd (h refl)
some m (suc s) h = refl

pub returns-then-shift-eq0 : goal.returns-then-shift-eq0
returns-then-shift-eq0 c = none _ _ c.if-shift-eq0.true

pub returns-else-shift-eq0 : goal.returns-else-shift-eq0
returns-else-shift-eq0 c = some _ _ c.if-shift-eq0.false
