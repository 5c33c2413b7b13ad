-- What signs, sizes and binary16 promise. Assumes nothing.
use Rattle.std.specs.Prelude.{◌≡◌, ℕ, zero, suc, ◌+◌, ◌*◌, ◌/◌, ◌%◌, ◌^◌, ◌<◌, Bool, true, false, cond, not, ◌&&◌, T, ◌==◌, nat_eq, refl, Float}
use Rattle.std.proofs.Common.{sym, ap, ◌∙◌, subst, mul_assoc, lt_irrefl, lt_of_lt_of_le, arith, pow_pos, pow-add, pow_mono, shl_lt, ne_eqb}
use Rattle.std.proofs.Math.Dec.{eqb_refl}
use Rattle.std.specs.Float.{nan, inf, fin, binary32}
use Rattle.std.specs.Float.Ieee.{up, down, round, neg, ne, is_nan}
use Rattle.std.specs.Float.Ieee.Exact.{HasValue, round_exact}
use Rattle.laws.specs.Compare.{under_zero}
use Rattle.numbers.specs.Words.{sign_of, signed, abs_of, half_units, half_fields, half_of}

-- ---- only a NaN differs from itself
both : (a : Bool) → T a → not (a && true) ≡ false
both true t = refl
both false t = elim t [ ]

pub nan_test : (x : Float) → ne x x ≡ is_nan x
unfolding ne is_nan
nan_test nan = refl
nan_test (inf true) = refl
nan_test (inf false) = refl
nan_test (fin true m e) = both (m * up e * down e == m * up e * down e) (eqb_refl (m * up e * down e))
nan_test (fin false m e) = both (m * up e * down e == m * up e * down e) (eqb_refl (m * up e * down e))

-- ---- a NaN has no size
pub abs_nan : abs_of nan ≡ nan
unfolding abs_of sign_of signed
abs_nan = refl

-- ---- a size has no sign
pub abs_clear : (x : Float) → T (not (sign_of (abs_of x)))
unfolding sign_of abs_of signed neg
abs_clear nan = tt
abs_clear (inf true) = tt
abs_clear (inf false) = tt
abs_clear (fin true m e) = tt
abs_clear (fin false m e) = tt

pub abs_not_below : (x : Float) → T (not (under_zero (abs_of x)))
unfolding sign_of abs_of signed neg
abs_not_below nan = tt
abs_not_below (inf true) = tt
abs_not_below (inf false) = tt
abs_not_below (fin true zero e) = tt
abs_not_below (fin false zero e) = tt
abs_not_below (fin true (suc m) e) = tt
abs_not_below (fin false (suc m) e) = tt

-- ---- a finite binary16 is read with no rounding
fine : (u x : ℕ) → u < 2 ^ 11 → x < 31 → u * 2 ^ (x + 125) < 2 ^ (149 + 128)
fine u x h k = lt_of_lt_of_le (shl_lt 11 (x + 125) h) (pow_mono {j = 277} (omega arith))

sums : (x : ℕ) → x + 149 ≡ x + 125 + 24
sums x = omega arith

units_exact : (s : Bool) (x t : ℕ) → x < 31 → t < 1024 → HasValue (round binary32 s (half_units x t) (2 ^ 24)) s (half_units x t) (2 ^ 24)
unfolding half_units
units_exact s zero t h k = round_exact binary32 s t (2 ^ 24) t 125 (pow_pos 24) (omega arith) (fine t 0 (omega arith) (omega arith)) (sym (mul_assoc t (2 ^ 125) (2 ^ 24)))
units_exact s (suc x) t h k =
    round_exact binary32 s ((1024 + t) * 2 ^ x) (2 ^ 24) (1024 + t) (x + 125) (pow_pos 24) (omega arith) (fine (1024 + t) x (omega arith) (omega arith))
    (mul_assoc (1024 + t) (2 ^ x) (2 ^ 149)
    ∙ ap (λ (z : ℕ). (1024 + t) * z) (sym (pow-add 2 x 149) ∙ ap (λ (z : ℕ). 2 ^ z) (sums x) ∙ pow-add 2 (x + 125) 24)
    ∙ sym (mul_assoc (1024 + t) (2 ^ (x + 125)) (2 ^ 24)))

pub half_exact : (w : ℕ) → w / 1024 % 32 < 31 → HasValue (half_of w) (w / 32768 % 2 == 1) (half_units (w / 1024 % 32) (w % 1024)) (2 ^ 24)
unfolding half_of half_fields
half_exact w h =
    let s = nat_eq (w / 32768 % 2) 1 in
    let x = w / 1024 % 32 in
    let t = w % 1024 in
    subst (λ (b : Bool). HasValue (cond b (cond (t == 0) (inf s) nan) (round binary32 s (half_units x t) (2 ^ 24))) s (half_units x t) (2 ^ 24)) (sym (ne_eqb x 31 (λ e. lt_irrefl 0 (omega arith)))) (units_exact s x t h (omega arith))

-- ---- the sign and the size of a number that has none, and of the same turned round
pub plus_size : (x : Float) (a c : ℕ) → HasValue x false a c → (sign_of x ≡ false) × (abs_of x ≡ x) × (sign_of (neg x) ≡ true) × (abs_of (neg x) ≡ x)
unfolding sign_of abs_of signed neg
plus_size nan a c v = absurd v
plus_size (inf s) a c v = absurd v
plus_size (fin true m e) a c v = let z : ◌≡◌ {A = ℕ} 0 1 = (let k = v.0 in cc) in absurd (omega arith)
plus_size (fin false m e) a c v = (refl, refl, refl, refl)
