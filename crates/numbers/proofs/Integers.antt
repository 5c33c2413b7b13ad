-- The conversions between f32 and the integers, where the code's tests lead. Assumes nothing.
use Rattle.std.proofs.Common.{◌≡◌, ℕ, zero, suc, ◌<◌, ◌≤◌, min, Bool, true, false, cond, T, ℤ, pos, ◌-ℤ◌, neg_ℤ, ap, ◌∙◌, lt_of_lt_of_le, lt_of_le_of_lt, arith, lit<, lit≤, le→leb, w32, to_z, of_z}
use lib.IntN.{+ℤ_idl}
use lib.Signed.{mag}
use mir.ValLaws.{to_z_pos, to_z-of_z}
use lib.Ieee.{binary32, in_float}

-- ---- Rust's `k as f32` loses nothing
pub small_exact : (k : ℕ) → k < 16777216 → T (in_float binary32 (pos k))
unfolding in_float
small_exact k h = le→leb k 16777216 (omega arith)

-- ---- an i32 from its size
pub read_back : {z : ℤ} → mag z < 2147483648 → to_z w32 (of_z w32 z) ≡ z
read_back {z} h = to_z-of_z w32 z (record { sfits = h })

pub plus : (a : ℕ) → a ≤ 2147483647 → to_z w32 a ≡ pos a
plus a h = to_z_pos w32 a (lt_of_le_of_lt h (lit< tt))

minus_in : (a : ℕ) → a ≤ 2147483647 → mag (neg_ℤ (pos a)) < 2147483648
minus_in zero h = lit< tt
minus_in (suc a) h = lt_of_lt_of_le h (lit≤ tt)

minus_is : (a : ℕ) → a ≤ 2147483647 → pos 0 -ℤ to_z w32 a ≡ neg_ℤ (pos a)
minus_is a h = ap (λ (z : ℤ). pos 0 -ℤ z) (plus a h) ∙ +ℤ_idl (neg_ℤ (pos a))

pub minus : (a : ℕ) → a ≤ 2147483647 → to_z w32 (of_z w32 (pos 0 -ℤ to_z w32 a)) ≡ neg_ℤ (pos a)
minus a h = ap (λ (z : ℤ). to_z w32 (of_z w32 z)) (minus_is a h) ∙ read_back (minus_in a h)

-- ---- and within its range
within : (a : ℕ) → a ≤ 2147483647 → (a ≡ min a 2147483648) × (a ≡ min a 2147483647)
within a h = (omega arith, omega arith)

pub uncapped : (s : Bool) (a : ℕ) → a ≤ 2147483647 → cond s (neg_ℤ (pos a)) (pos a) ≡ cond s (neg_ℤ (pos (min a 2147483648))) (pos (min a 2147483647))
uncapped true a h = ap (λ (z : ℕ). neg_ℤ (pos z)) (within a h).0
uncapped false a h = ap pos (within a h).1
