-- What each of the four roots gives: the nearest f32 of a number above zero; and for NaN, infinities, zeros, numbers below zero and sums past the largest f32 what the rules say.
-- The last of each, `sqrt_only` and its like: no second answer satisfies the contract. Assumes nothing.
use Rattle.std.specs.Prelude.{◌≡◌, ℕ, zero, suc, ◌+◌, ◌*◌, ◌/◌, ◌^◌, ◌≤◌, Bool, true, false, T, ℤ, pos, ◌≢◌, refl, Float}
use Rattle.std.proofs.Common.{ap, ◌∙◌, add_comm, zero-mul, lit<}
use Rattle.std.proofs.Math.Nat.{zero-div}
use Rattle.std.specs.Float.{nan, inf, fin}
use Rattle.std.specs.Float.Ieee.{up, down, neg}
use Rattle.laws.specs.Compare.{under_zero}
use Rattle.laws.specs.Only.{Only, determined}
use Rattle.roots.specs.Root.{mag, nearest_root, sqrt_of, cbrt_of, two_thirds_of, hypot_of}
use Rattle.roots.specs.Nearest.{Nearest}
use Rattle.roots.specs.RootLaws.{nearest_is, past_largest}

-- ---- the square root
pub sqrt_nearest : (m : ℕ) (e : ℤ) → Nearest false 2 (mag (suc m) e * 2 ^ 149) (sqrt_of (fin false (suc m) e))
unfolding sqrt_of
sqrt_nearest m e = nearest_is false 2 (mag (suc m) e * 2 ^ 149) (lit< tt)

pub sqrt_nan : sqrt_of nan ≡ nan
unfolding sqrt_of
sqrt_nan = refl

pub sqrt_below_zero : (x : Float) → T (under_zero x) → sqrt_of x ≡ nan
unfolding sqrt_of
sqrt_below_zero nan h = absurd h
sqrt_below_zero (inf true) h = refl
sqrt_below_zero (inf false) h = absurd h
sqrt_below_zero (fin s zero e) h = absurd h
sqrt_below_zero (fin true (suc m) e) h = refl
sqrt_below_zero (fin false (suc m) e) h = absurd h

pub sqrt_infinity : sqrt_of (inf false) ≡ inf false
unfolding sqrt_of
sqrt_infinity = refl

-- a zero keeps its sign
pub sqrt_zero : (s : Bool) (e : ℤ) → sqrt_of (fin s zero e) ≡ fin s zero e
unfolding sqrt_of
sqrt_zero s e = refl

pub sqrt_only : (x : Float) → Only (λ r. r ≡ sqrt_of x)
sqrt_only x = determined (sqrt_of x)

-- ---- the cube root, which keeps the sign of a zero and of an infinity
pub cbrt_nearest : (s : Bool) (m : ℕ) (e : ℤ) → Nearest s 3 (mag (suc m) e * 2 ^ 298) (cbrt_of (fin s (suc m) e))
unfolding cbrt_of
cbrt_nearest s m e = nearest_is s 3 (mag (suc m) e * 2 ^ 298) (lit< tt)

pub cbrt_nan : cbrt_of nan ≡ nan
unfolding cbrt_of
cbrt_nan = refl

pub cbrt_infinity : (s : Bool) → cbrt_of (inf s) ≡ inf s
unfolding cbrt_of
cbrt_infinity s = refl

pub cbrt_zero : (s : Bool) (e : ℤ) → cbrt_of (fin s zero e) ≡ fin s zero e
unfolding cbrt_of
cbrt_zero s e = refl

pub cbrt_only : (x : Float) → Only (λ r. r ≡ cbrt_of x)
cbrt_only x = determined (cbrt_of x)

-- ---- the two-thirds power
pub two_thirds_nearest : (m : ℕ) (e : ℤ) → Nearest false 3 (mag (suc m) e * mag (suc m) e * 2 ^ 149) (two_thirds_of (fin false (suc m) e))
unfolding two_thirds_of
two_thirds_nearest m e = nearest_is false 3 (mag (suc m) e * mag (suc m) e * 2 ^ 149) (lit< tt)

pub two_thirds_nan : two_thirds_of nan ≡ nan
unfolding two_thirds_of
two_thirds_nan = refl

pub two_thirds_below_zero : (x : Float) → T (under_zero x) → two_thirds_of x ≡ nan
unfolding two_thirds_of
two_thirds_below_zero nan h = absurd h
two_thirds_below_zero (inf true) h = refl
two_thirds_below_zero (inf false) h = absurd h
two_thirds_below_zero (fin s zero e) h = absurd h
two_thirds_below_zero (fin true (suc m) e) h = refl
two_thirds_below_zero (fin false (suc m) e) h = absurd h

pub two_thirds_infinity : two_thirds_of (inf false) ≡ inf false
unfolding two_thirds_of
two_thirds_infinity = refl

-- +0 of either zero
pub two_thirds_zero : (s : Bool) (e : ℤ) → two_thirds_of (fin s zero e) ≡ fin false 0 (pos 0)
unfolding two_thirds_of
two_thirds_zero s e = refl

pub two_thirds_only : (x : Float) → Only (λ r. r ≡ two_thirds_of x)
two_thirds_only x = determined (two_thirds_of x)

-- ---- the hypotenuse
pub hypot_nearest : (s : Bool) (m : ℕ) (e : ℤ) (t : Bool) (n : ℕ) (d : ℤ) → Nearest false 2 (mag m e * mag m e + mag n d * mag n d) (hypot_of (fin s m e) (fin t n d))
unfolding hypot_of
hypot_nearest s m e t n d = nearest_is false 2 (mag m e * mag m e + mag n d * mag n d) (lit< tt)

-- from the middle between the largest f32 and 2 ^ 277 units on, the infinity
pub hypot_overflow : (s : Bool) (m : ℕ) (e : ℤ) (t : Bool) (n : ℕ) (d : ℤ) → (33554431 * 2 ^ 252) ^ 2 ≤ mag m e * mag m e + mag n d * mag n d → hypot_of (fin s m e) (fin t n d) ≡ inf false
unfolding hypot_of
hypot_overflow s m e t n d h = past_largest false 2 (mag m e * mag m e + mag n d * mag n d) (lit< tt) h

-- of an infinity and anything, a NaN too, the infinity
pub hypot_infinity : (s : Bool) (y : Float) → hypot_of (inf s) y ≡ inf false
unfolding hypot_of
hypot_infinity s y = refl

pub hypot_infinity_2 : (x : Float) (s : Bool) → hypot_of x (inf s) ≡ inf false
unfolding hypot_of
hypot_infinity_2 nan s = refl
hypot_infinity_2 (inf t) s = refl
hypot_infinity_2 (fin t m e) s = refl

-- of a NaN and anything else, NaN
pub hypot_nan : (y : Float) → ((s : Bool) → y ≢ inf s) → hypot_of nan y ≡ nan
unfolding hypot_of
hypot_nan nan h = refl
hypot_nan (inf s) h = absurd (h s refl)
hypot_nan (fin s m e) h = refl

pub hypot_nan_2 : (x : Float) → ((s : Bool) → x ≢ inf s) → hypot_of x nan ≡ nan
unfolding hypot_of
hypot_nan_2 nan h = refl
hypot_nan_2 (inf s) h = absurd (h s refl)
hypot_nan_2 (fin s m e) h = refl

no_size : (e : ℤ) → mag 0 e ≡ 0
no_size e = ap (λ (x : ℕ). x * 2 ^ 149 / down e) (zero-mul (up e)) ∙ ap (λ (x : ℕ). x / down e) (zero-mul (2 ^ 149)) ∙ zero-div (down e)

root_of_none : nearest_root false 2 (0 * 0 + 0 * 0) ≡ fin false 0 (pos 0)
unfolding nearest_root
root_of_none = refl

-- of two zeros, +0
-- turned by a quarter, a pair has the same hypotenuse
pub hypot_turned : (x y : Float) → hypot_of (neg y) x ≡ hypot_of x y
unfolding hypot_of neg
hypot_turned nan nan = refl
hypot_turned nan (inf t) = refl
hypot_turned nan (fin t n d) = refl
hypot_turned (inf s) nan = refl
hypot_turned (inf s) (inf t) = refl
hypot_turned (inf s) (fin t n d) = refl
hypot_turned (fin s m e) nan = refl
hypot_turned (fin s m e) (inf t) = refl
hypot_turned (fin s m e) (fin t n d) = ap (nearest_root false 2) (add_comm (mag n d * mag n d) (mag m e * mag m e))

pub hypot_zeros : (s : Bool) (e : ℤ) (t : Bool) (d : ℤ) → hypot_of (fin s zero e) (fin t zero d) ≡ fin false 0 (pos 0)
unfolding hypot_of
hypot_zeros s e t d =
    ap (λ (x : ℕ). nearest_root false 2 (x * x + mag 0 d * mag 0 d)) (no_size e)
    ∙ ap (λ (y : ℕ). nearest_root false 2 (0 * 0 + y * y)) (no_size d)
    ∙ root_of_none

pub hypot_only : (x y : Float) → Only (λ r. r ≡ hypot_of x y)
hypot_only x y = determined (hypot_of x y)
