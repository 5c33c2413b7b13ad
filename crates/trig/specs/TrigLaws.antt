-- What sin, cos, atan2, asin and acos promise. Whoever calls them needs no more, and nothing of Trig.antt but the names. Assumes nothing.
use Rattle.std.specs.Prelude.{◌≡◌, refl, Bool, true, false, not, ◌||◌, cond, ℕ, ◌%◌, pos, negsuc, T, leb, eqb, Float}
use Rattle.std.proofs.Common.{sym, ap, ◌∙◌, subst}
use Rattle.std.specs.Float.{nan, inf, fin, binary32}
use Rattle.std.specs.Float.Ieee.{of_bits, fits, is_nan, add, sub, mul, neg, lt, le, eq}
use Rattle.std.specs.Float.Ieee.Fits.{nan-fits, cond-fits, add-fits, sub-fits}
use Rattle.std.specs.Float.Ieee.Bits.{is_true, is_false, of_bits-fits}
use Rattle.std.specs.Float.Ieee.Scale.{finite}
use Rattle.laws.specs.Only.{Only, determined}
use Rattle.numbers.specs.Words.{sign_of, signed, abs_of}
use Rattle.numbers.specs.Order.{le_number_right}
use Rattle.roots.specs.Root.{sqrt_of}
use Rattle.trig.specs.Trig.{Within, zero, minus_zero, half, one, minus_one, half_pi, minus_half_pi, pi, minus_pi, infinity, bounded_of, sin_near, cos_near, reduced_of, curve_of, wave_of, sin_of, cos_of, atan_near, angle_of, atan2_of, asin_near, acos_near, arc_sine_of, arc_cosine_of, asin_of, acos_of}
use Rattle.trig.specs.Signs.{sign_neg, abs_neg, nan_neg, signed_not, lt→le, neg_lt, neg_le, lt_not_le, sign_above, within_number, bounded_within, signed_within, under_zero_lem, signed_fits, bounded_fits}

-- ---- an answer is determined
pub sin_only : (x : Float) → Only (λ r. r ≡ sin_of x)
sin_only x = determined (sin_of x)

pub cos_only : (x : Float) → Only (λ r. r ≡ cos_of x)
cos_only x = determined (cos_of x)

pub atan2_only : (y x : Float) → Only (λ r. r ≡ atan2_of y x)
atan2_only y x = determined (atan2_of y x)

pub asin_only : (x : Float) → Only (λ r. r ≡ asin_of x)
asin_only x = determined (asin_of x)

pub acos_only : (x : Float) → Only (λ r. r ≡ acos_of x)
acos_only x = determined (acos_of x)

-- ---- no angle, no value: NaN
pub sin_nan : sin_of nan ≡ nan
unfolding sin_of abs_of signed sign_of lt
sin_nan = refl

pub cos_nan : cos_of nan ≡ nan
unfolding cos_of abs_of signed sign_of lt
cos_nan = refl

pub sin_infinite : (s : Bool) → sin_of (inf s) ≡ nan
unfolding sin_of abs_of signed sign_of neg lt of_bits
sin_infinite true = refl
sin_infinite false = refl

pub cos_infinite : (s : Bool) → cos_of (inf s) ≡ nan
unfolding cos_of abs_of signed sign_of neg lt of_bits
cos_infinite true = refl
cos_infinite false = refl

pub asin_nan : asin_of nan ≡ nan
unfolding asin_of abs_of signed sign_of le
asin_nan = refl

pub acos_nan : acos_of nan ≡ nan
unfolding acos_of abs_of signed sign_of le
acos_nan = refl

pub atan2_nan_y : (x : Float) → atan2_of nan x ≡ nan
unfolding atan2_of is_nan
atan2_nan_y x = refl

pub atan2_nan_x : (y : Float) → atan2_of y nan ≡ nan
unfolding atan2_of is_nan
atan2_nan_x nan = refl
atan2_nan_x (inf s) = refl
atan2_nan_x (fin s m e) = refl

-- ---- sin is odd and cos even, bit for bit; asin is odd, and atan2 in y
neg_nan : neg nan ≡ nan
unfolding neg
neg_nan = refl

pub neg_cond : (b : Bool) (v : Float) → cond b (neg v) nan ≡ neg (cond b v nan)
neg_cond true v = refl
neg_cond false v = sym neg_nan

neg_cond_not : (b : Bool) (v : Float) → cond b nan (neg v) ≡ neg (cond b nan v)
neg_cond_not true v = sym neg_nan
neg_cond_not false v = refl

-- a function that takes NaN to NaN and is odd on numbers is odd
pub odd : (f : Float → Float) → f nan ≡ nan → ((x : Float) → T (not (is_nan x)) → f (neg x) ≡ neg (f x)) → (x : Float) → f (neg x) ≡ neg (f x)
unfolding is_nan
odd f n h nan = ap f neg_nan ∙ n ∙ sym neg_nan ∙ ap neg (sym n)
odd f n h (inf s) = h (inf s) tt
odd f n h (fin s m e) = h (fin s m e) tt

pub cos_even : (x : Float) → cos_of (neg x) ≡ cos_of x
unfolding cos_of
cos_even x = rw (abs_neg x)

asin_odd_number : (x : Float) → T (not (is_nan x)) → asin_of (neg x) ≡ neg (asin_of x)
unfolding asin_of
asin_odd_number x h = rw (abs_neg x, sign_neg x h, signed_not) (neg_cond (le (abs_of x) one) _)

pub asin_odd : (x : Float) → asin_of (neg x) ≡ neg (asin_of x)
asin_odd = odd asin_of asin_nan asin_odd_number

atan2_odd_number : (x y : Float) → T (not (is_nan y)) → atan2_of (neg y) x ≡ neg (atan2_of y x)
unfolding atan2_of
atan2_odd_number x y h = rw (nan_neg y, abs_neg y, sign_neg y h, signed_not) (neg_cond_not (is_nan y || is_nan x) _)

pub atan2_odd : (y x : Float) → atan2_of (neg y) x ≡ neg (atan2_of y x)
atan2_odd y x = odd (λ v. atan2_of v x) (atan2_nan_y x) (atan2_odd_number x) y

-- ---- sin and cos of an angle lie in -1 to 1
finite_abs : (x : Float) → T (finite x) → lt (abs_of x) infinity ≡ true
unfolding abs_of signed sign_of neg lt of_bits
finite_abs nan h = absurd h
finite_abs (inf s) h = absurd h
finite_abs (fin true m e) h = refl
finite_abs (fin false m e) h = refl

wave_range : (k : ℕ) (r : Float) → Within minus_one one (wave_of k r)
unfolding wave_of le of_bits
wave_range k r = bounded_within minus_one minus_one one (λ v h. h) tt tt tt tt _

pub sin_range : (x : Float) → T (finite x) → Within minus_one one (sin_of x)
unfolding sin_of of_bits neg
sin_range x h = rw (finite_abs x h) (signed_within one (sign_of x) _ (wave_range _ _))

pub cos_range : (x : Float) → T (finite x) → Within minus_one one (cos_of x)
unfolding cos_of
cos_range x h = rw (finite_abs x h) (wave_range _ _)

-- ---- atan2 lies in -π to π
pub atan2_range : (y x : Float) → T (not (is_nan y)) → T (not (is_nan x)) → Within minus_pi pi (atan2_of y x)
unfolding atan2_of le of_bits neg
atan2_range y x h k = rw (is_false (is_nan y) h, is_false (is_nan x) k) (signed_within pi (sign_of y) _ (bounded_within minus_pi zero pi (under_zero_lem 13176794 (negsuc 21)) tt tt tt tt _))

-- ---- asin lies in -π/2 to π/2 and acos in 0 to π; outside -1 to 1 they are NaN
pub neg_minus_one : neg minus_one ≡ one
unfolding neg of_bits
neg_minus_one = refl

pub abs_inside : (x : Float) → T (le minus_one x) → T (le x one) → T (le (abs_of x) one)
unfolding abs_of signed
abs_inside x h k = go (sign_of x)
  where
    go : (s : Bool) → T (le (cond s (neg x) x) one)
    go true = rw neg_minus_one at (neg_le minus_one x h)
    go false = k

abs_above : (x : Float) → T (lt one x) → le (abs_of x) one ≡ false
unfolding abs_of signed of_bits
abs_above x h = rw (sign_above 1 (pos 0) x h) (lt_not_le one x h)

abs_below : (x : Float) → T (lt x minus_one) → le (abs_of x) one ≡ false
abs_below x h = ap (λ (v : Float). le v one) (sym (abs_neg x)) ∙ abs_above (neg x) (subst T (sym (ap (λ (v : Float). lt v (neg x)) (sym neg_minus_one) ∙ neg_lt minus_one x)) h)

pub asin_above : (x : Float) → T (lt one x) → asin_of x ≡ nan
unfolding asin_of
asin_above x h = rw (abs_above x h)

pub asin_below : (x : Float) → T (lt x minus_one) → asin_of x ≡ nan
unfolding asin_of
asin_below x h = rw (abs_below x h)

pub acos_above : (x : Float) → T (lt one x) → acos_of x ≡ nan
unfolding acos_of
acos_above x h = rw (abs_above x h)

pub acos_below : (x : Float) → T (lt x minus_one) → acos_of x ≡ nan
unfolding acos_of
acos_below x h = rw (abs_below x h)

pub asin_range : (x : Float) → T (le minus_one x) → T (le x one) → Within minus_half_pi half_pi (asin_of x)
unfolding asin_of le of_bits neg
asin_range x h k = rw (is_true (le (abs_of x) one) (abs_inside x h k)) (signed_within half_pi (sign_of x) _ (bounded_within minus_half_pi zero half_pi (under_zero_lem 13176794 (negsuc 22)) tt tt tt tt _))

pub acos_range : (x : Float) → T (le minus_one x) → T (le x one) → Within zero pi (acos_of x)
unfolding acos_of le of_bits
acos_range x h k = rw (is_true (le (abs_of x) one) (abs_inside x h k)) (bounded_within zero zero pi (λ v h. h) tt tt tt tt _)

-- ---- so they are numbers
pub cos_number : (x : Float) → T (finite x) → T (not (is_nan (cos_of x)))
cos_number x h = within_number (cos_range x h)

pub atan2_number : (y x : Float) → T (not (is_nan y)) → T (not (is_nan x)) → T (not (is_nan (atan2_of y x)))
atan2_number y x h k = within_number (atan2_range y x h k)

pub asin_number : (x : Float) → T (le minus_one x) → T (le x one) → T (not (is_nan (asin_of x)))
asin_number x h k = within_number (asin_range x h k)

pub acos_number : (x : Float) → T (le minus_one x) → T (le x one) → T (not (is_nan (acos_of x)))
acos_number x h k = within_number (acos_range x h k)

-- ---- at 0 and 1
pub sin_zero : sin_of zero ≡ zero
unfolding sin_of abs_of sign_of signed reduced_of curve_of wave_of sin_near bounded_of neg add mul lt of_bits
sin_zero = refl

pub sin_minus_zero : sin_of minus_zero ≡ minus_zero
unfolding sin_of abs_of sign_of signed reduced_of curve_of wave_of sin_near bounded_of neg add mul lt of_bits
sin_minus_zero = refl

pub cos_zero : cos_of zero ≡ one
unfolding cos_of abs_of sign_of signed reduced_of curve_of wave_of cos_near bounded_of neg add mul lt of_bits
cos_zero = refl

pub cos_minus_zero : cos_of minus_zero ≡ one
unfolding cos_of abs_of sign_of signed reduced_of curve_of wave_of cos_near bounded_of neg add mul lt of_bits
cos_minus_zero = refl

pub acos_one : acos_of one ≡ zero
unfolding acos_of abs_of sign_of signed asin_near acos_near arc_cosine_of bounded_of neg add sub mul lt le sqrt_of of_bits
acos_one = refl

pub acos_zero : acos_of zero ≡ half_pi
unfolding acos_of abs_of sign_of signed asin_near arc_cosine_of bounded_of neg add sub mul lt le of_bits
acos_zero = refl

pub acos_minus_zero : acos_of minus_zero ≡ half_pi
unfolding acos_of abs_of sign_of signed asin_near arc_cosine_of bounded_of neg add sub mul lt le of_bits
acos_minus_zero = refl

-- ---- atan2 of a zero over what is above zero is that zero
above_number : (x : Float) → T (lt zero x) → is_nan x ≡ false
above_number x h = is_false (is_nan x) (le_number_right zero x (lt→le zero x h))

pub atan2_zero : (x : Float) → T (lt zero x) → atan2_of zero x ≡ zero
unfolding atan2_of angle_of of_bits is_nan abs_of signed neg eq lt bounded_of sign_of
atan2_zero x h = rw (above_number x h, sign_above 0 (pos 0) x h)

pub atan2_minus_zero : (x : Float) → T (lt zero x) → atan2_of minus_zero x ≡ minus_zero
unfolding atan2_of angle_of of_bits is_nan abs_of signed neg eq lt bounded_of sign_of
atan2_minus_zero x h = rw (above_number x h, sign_above 0 (pos 0) x h)

-- ---- they are of the format
curve_fits : (k : ℕ) (r : Float) → T (fits binary32 (curve_of k r))
unfolding curve_of sin_near cos_near
curve_fits k r = cond-fits binary32 (eqb (k % 2) 0) _ _ (add-fits binary32 _ r) (add-fits binary32 _ one)

wave_fits : (k : ℕ) (r : Float) → T (fits binary32 (wave_of k r))
unfolding wave_of
wave_fits k r = bounded_fits minus_one one (signed (leb 2 (k % 4)) (curve_of k r)) (of_bits-fits binary32 0xbf800000) (of_bits-fits binary32 0x3f800000) (signed_fits (leb 2 (k % 4)) (curve_of k r) (curve_fits k r))

pub sin_fits : (x : Float) → T (fits binary32 (sin_of x))
unfolding sin_of
sin_fits x = cond-fits binary32 (lt (abs_of x) infinity) _ nan (signed_fits (sign_of x) _ (wave_fits _ _)) (nan-fits binary32)

pub cos_fits : (x : Float) → T (fits binary32 (cos_of x))
unfolding cos_of
cos_fits x = cond-fits binary32 (lt (abs_of x) infinity) _ nan (wave_fits _ _) (nan-fits binary32)

angle_fits : (y x : Float) → T (fits binary32 (angle_of y x))
unfolding angle_of atan_near
angle_fits y x =
    cond-fits binary32 (eq y zero) _ _ (cond-fits binary32 (sign_of x) pi zero (of_bits-fits binary32 0x40490fdb) (of_bits-fits binary32 0))
    (cond-fits binary32 (lt (abs_of x) y) _ _ (sub-fits binary32 half_pi _) (cond-fits binary32 (sign_of x) _ _ (sub-fits binary32 pi _) (add-fits binary32 _ _)))

from_zero_fits : (n : ℕ) (v : Float) → T (fits binary32 v) → T (fits binary32 (bounded_of zero (of_bits binary32 n) v))
from_zero_fits n v h = bounded_fits zero (of_bits binary32 n) v (of_bits-fits binary32 0) (of_bits-fits binary32 n) h

pub atan2_fits : (y x : Float) → T (fits binary32 (atan2_of y x))
unfolding atan2_of
atan2_fits y x = cond-fits binary32 (is_nan y || is_nan x) nan _ (nan-fits binary32) (signed_fits (sign_of y) _ (from_zero_fits 0x40490fdb _ (angle_fits (abs_of y) x)))

arc_sine_fits : (a : Float) → T (fits binary32 (arc_sine_of a))
unfolding arc_sine_of asin_near
arc_sine_fits a = cond-fits binary32 (le a half) _ _ (add-fits binary32 _ _) (sub-fits binary32 half_pi _)

pub asin_fits : (x : Float) → T (fits binary32 (asin_of x))
unfolding asin_of
asin_fits x = cond-fits binary32 (le (abs_of x) one) _ nan (signed_fits (sign_of x) _ (from_zero_fits 0x3fc90fdb _ (arc_sine_fits (abs_of x)))) (nan-fits binary32)

arc_cosine_fits : (x a : Float) → T (fits binary32 (arc_cosine_of x a))
unfolding arc_cosine_of acos_near
arc_cosine_fits x a = cond-fits binary32 (le a half) _ _ (sub-fits binary32 half_pi _) (cond-fits binary32 (lt zero x) _ _ (add-fits binary32 _ _) (sub-fits binary32 pi _))

pub acos_fits : (x : Float) → T (fits binary32 (acos_of x))
unfolding acos_of
acos_fits x = cond-fits binary32 (le (abs_of x) one) _ nan (from_zero_fits 0x40490fdb _ (arc_cosine_fits x (abs_of x))) (nan-fits binary32)
