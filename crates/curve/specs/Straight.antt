-- A range that is one line, told without a root. Its count is the ceiling of √|x| * (c * √y), brought into 1 to 100, with c below 1/2: for |x| at most
-- 2 ^ -12 and y from 0 to 2 ^ 14 the roots are at most 2 ^ -6 and 2 ^ 7, so the product is at most 1, and the count is 1 (`one_line`). Assumes nothing.
use Rattle.std.specs.Prelude.{◌≡◌, refl, Bool, true, false, not, ◌&&◌, ℕ, zero, suc, ◌*◌, ◌^◌, ◌<◌, ℤ, pos, negsuc, T, eqb, Float}
use Rattle.std.proofs.Common.{sym, ◌∙◌, subst, le_trans, le_of_eq, lt_irrefl, mul-one, one-mul, mul-pos, zero-lt-suc, eqb→eq, lit<, lit≤, pow_pos}
use Rattle.std.specs.Float.{nan, inf, fin}
use Rattle.std.specs.Float.Ieee.{up, down, round, mul, le}
use Rattle.std.specs.Float.Ieee.Fits.{up_pos, and_l, and_r}
use Rattle.laws.specs.Binary32.{◌⊗◌, dec, whole}
use Rattle.laws.specs.Compare.{under_zero}
use Rattle.laws.specs.Size.{AtMost, widened, le_at_most, mul_at_most}
use Rattle.maths.specs.Numbers.{abs_of, ceil_of, clamp_of, abs_not_below, one_of_ceil}
use Rattle.maths.specs.Roots.{sqrt_of, sqrt_at_most}

unfoldable pub is_straight : Float → Float → Bool
is_straight x y = le (abs_of x) (dec 244140625 12) && (le (whole 0) y && le y (whole 16384))

-- ---- what is not below zero
nothing : (m : ℕ) (e : ℤ) (z : ℕ) → z ≡ suc m * up e * 1 → z ≡ 0 → ⊥
nothing m e z p q = lt_irrefl 0 (subst (λ (n : ℕ). 0 < n) (sym p ∙ q) (mul-pos (mul-pos (zero-lt-suc m) (up_pos e)) (pow_pos 0)))

from_zero : (y : Float) → T (le (fin false 0 (pos 0)) y) → T (not (under_zero y))
unfolding le
from_zero nan h = tt
from_zero (inf true) h = absurd h
from_zero (inf false) h = tt
from_zero (fin s zero e) h = tt
from_zero (fin true (suc m) e) h =
    let same = eqb (0 * 1 * down e) (suc m * up e * 1) in
    let none = eqb (0 * 1 * down e) 0 in
    absurd (nothing m e (0 * 1 * down e) (eqb→eq (0 * 1 * down e) (suc m * up e * 1) (and_l same none h)) (eqb→eq (0 * 1 * down e) 0 (and_r same none h)))
from_zero (fin false (suc m) e) h = tt

-- ---- the count
pub one_count : (v : Float) → AtMost 1 1 v → clamp_of (ceil_of v) (whole 1) (whole 100) ≡ whole 1
one_count nan h = absurd h
one_count (inf s) h = absurd h
one_count (fin s m e) h = one_of_ceil s m e (le_trans (le_of_eq (sym (mul-one (m * up e)))) (le_trans h (le_of_eq (one-mul (down e)))))

abbrev pub factor : Float
factor = dec 5 1 ⊗ dec 707106781186547524400844362104849039 36

factor_at_most : AtMost 1 2 factor
unfolding mul round
factor_at_most = lit≤ tt

bend_at_most : (x : Float) → T (le (abs_of x) (dec 244140625 12)) → AtMost (2 ^ 143) (2 ^ 149) (sqrt_of (abs_of x))
unfolding round
bend_at_most x h = sqrt_at_most (abs_of x) (2 ^ 137) 143 (abs_not_below x) (widened (abs_of x) 1 (2 ^ 12) (2 ^ 137) (2 ^ 149) (pow_pos 12) (lit≤ tt) (le_at_most (abs_of x) 1 (negsuc 11) (abs_not_below x) h)) (lit≤ tt) (lit< tt)

length_at_most : (y : Float) → T (le (whole 0) y) → T (le y (whole 16384)) → AtMost (2 ^ 156) (2 ^ 149) (sqrt_of y)
unfolding round
length_at_most y g h = sqrt_at_most y (2 ^ 163) 156 (from_zero y g) (widened y (2 ^ 14) 1 (2 ^ 163) (2 ^ 149) (pow_pos 0) (lit≤ tt) (le_at_most y 1 (pos 14) (from_zero y g) h)) (lit≤ tt) (lit< tt)

product_at_most : (x y : Float) → AtMost (2 ^ 143) (2 ^ 149) x → AtMost (2 ^ 156) (2 ^ 149) y → AtMost 1 1 (x ⊗ (factor ⊗ y))
unfolding round
product_at_most x y h l =
    mul_at_most x (factor ⊗ y) (2 ^ 143) (2 ^ 149) (2 ^ 6) 1 1 (pos 0) (pow_pos 149) (pow_pos 0) h
    (mul_at_most factor y 1 2 (2 ^ 156) (2 ^ 149) 1 (pos 6) (pow_pos 1) (pow_pos 149) factor_at_most l refl) refl

pub one_line : (x y : Float) → T (is_straight x y) → clamp_of (ceil_of (sqrt_of (abs_of x) ⊗ (factor ⊗ sqrt_of y))) (whole 1) (whole 100) ≡ whole 1
unfolding is_straight
one_line x y h =
    let bend = le (abs_of x) (dec 244140625 12) in
    let low = le (whole 0) y in
    let high = le y (whole 16384) in
    let l : T (low && high) = and_r bend (low && high) h in
    one_count (sqrt_of (abs_of x) ⊗ (factor ⊗ sqrt_of y)) (product_at_most (sqrt_of (abs_of x)) (sqrt_of y) (bend_at_most x (and_l bend (low && high) h)) (length_at_most y (and_l low high l) (and_r low high l)))
