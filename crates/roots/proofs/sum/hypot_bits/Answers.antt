-- `roots::sum::hypot_bits` meets its contract: the root of zero is zero. Assumes nothing.
use Rattle.std.proofs.Common.{◌≡◌, ℕ, Bool, cond, ◌^◌, ◌+◌, ◌*◌, ◌≤◌, true, false, sym, refl, subst, arith, lit≤}
use lib.Ieee.{binary32, of_bits}
use Rattle.roots.specs.Root.{nearest_root}
use Rattle.roots.specs.Parts.{mag_bits, root_bits}
use Rattle.roots.proofs.sum.hypot_bits.Goals as goal

zero_root : (s : Bool) → of_bits binary32 (cond s (2 ^ 31) 0 + 0) ≡ nearest_root s 2 (mag_bits 0 * mag_bits 0 + mag_bits 0 * mag_bits 0)
unfolding of_bits nearest_root
zero_root true = refl
zero_root false = refl

zeros : root_bits 2 (mag_bits 0 * mag_bits 0 + mag_bits 0 * mag_bits 0) 0
zeros = record { number = lit≤ tt; right = zero_root }

of_zeros : (a b : ℕ) → a ≡ 0 → b ≤ a → root_bits 2 (mag_bits a * mag_bits a + mag_bits b * mag_bits b) 0
of_zeros a b p h =
    let q : b ≡ 0 = omega arith in
    subst (λ (x : ℕ). root_bits 2 (mag_bits x * mag_bits x + mag_bits b * mag_bits b) 0) (sym p)
    (subst (λ (y : ℕ). root_bits 2 (mag_bits 0 * mag_bits 0 + mag_bits y * mag_bits y) 0) (sym q) zeros)

pub returns-then-a-eq0 : goal.returns-then-a-eq0
returns-then-a-eq0 c = of_zeros _ _ c.if-a-eq0.true c.requires.0
