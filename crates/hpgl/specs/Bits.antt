-- A float's rounding by its bits: the exponent's field, the digits, and what code finds with them. Assumes nothing.
use Rattle.std.specs.Prelude.{Option, None, Some, ◌≡◌, refl, Bool, true, false, cond, ◌&&◌, leb, ltb, eqb, Float}
use Rattle.std.proofs.Common.{sym, ap, ◌∙◌, inl, inr, le_trans, le_of_eq, lt_of_lt_of_le, mul_assoc, mul-one, mul-le-mul, one-mul, mod-eq_of_lt, add-one, ltb→lt, nltb→le, lit<, pow_pos, pow-add, pow_mono, shl_lt, lt-ltb, le-ltb, le-leb, eq-eqb, ne_eqb}
use Prim.Native.Nat.{ℕ, zero, suc, ◌+◌, ◌-◌, ◌*◌, ◌/◌, ◌%◌, ◌^◌, ◌≤◌, ◌<◌, compare, Ordering}
use Rattle.std.proofs.Math.Nat.{div-eq_of_lt}
use native.Mathlib.Omega.{arith}
use Rattle.std.proofs.Math.Dec.{is_le, compare_is_eq}
use Rattle.std.proofs.Math.Pow.{pow-lt}
use Rattle.std.specs.Float.{nan, inf, fin, binary32}
use Rattle.std.specs.Float.Ieee.{up, down, nearest, odd, of_fields, of_bits}
use Rattle.std.specs.Float.Ieee.Fits.{down_pos}
use Rattle.std.specs.Float.Ieee.Exact.{HasValue, odd_sign}
use Rattle.std.specs.Float.Ieee.Nearest.{closest, closest_mono, closest_same}
use Rattle.std.proofs.lemmas.Bool.{lt-leb}
use Rattle.laws.specs.Same.{either}
use Rattle.hpgl.specs.Text.{pick, signed_of}
use Rattle.hpgl.specs.Form.{Range, most, range_of}
use Rattle.hpgl.specs.Ranges.{most_few}
use Rattle.hpgl.specs.CommandLaws.{spot_point}
use Rattle.hpgl.specs.Rounding.{rounded_of, is_within, is_good, point_of}
use Rattle.hpgl.specs.declared.Table.{Table}
use Rattle.hpgl.specs.declared.rounding.Signed.{Signed}
use Rattle.hpgl.specs.declared.rounding.Spot.{Spot}

-- the size of a float below 2 ^ 24
unfoldable pub size_of : ℕ → ℕ → ℕ
size_of field digits = pick (ltb field 126) 0 (closest (8388608 + digits) (2 ^ (150 - field)))

-- a word's coordinate: refused, or the sign and size of what it is rounded to
abbrev pub Rounds : Range → ℕ → Option Signed → Type 0
Rounds r w None = is_good r (of_bits binary32 w) ≡ false
Rounds r w (Some n) = (is_good r (of_bits binary32 w) ≡ true) × (rounded_of (of_bits binary32 w) ≡ signed_of n.negative n.size)

-- the point of two words: refused where one of them is, or the signs and sizes
abbrev pub Aims : Range → ℕ → ℕ → Option Spot → Type 0
Aims r x y None = is_good r (of_bits binary32 x) && is_good r (of_bits binary32 y) ≡ false
Aims r x y (Some p) = (is_good r (of_bits binary32 x) && is_good r (of_bits binary32 y) ≡ true) × (point_of x y ≡ spot_point p)

-- ---- by how the remainder compares
order_lt : (a b : ℕ) → a < b → compare a b ≡ Ordering.lt
order_lt a b h = go (compare a b) (le-leb a b (omega arith)) (ne_eqb a b (λ e. omega arith))
  where
    go : (o : Ordering) → is_le o ≡ true → compare_is_eq o ≡ false → o ≡ Ordering.lt
    go Ordering.lt p q = refl
    go Ordering.eq p q = cc
    go Ordering.gt p q = cc

order_eq : (a b : ℕ) → a ≡ b → compare a b ≡ Ordering.eq
order_eq a b h = go (compare a b) (eq-eqb a b h)
  where
    go : (o : Ordering) → compare_is_eq o ≡ true → o ≡ Ordering.eq
    go Ordering.lt p = cc
    go Ordering.eq p = refl
    go Ordering.gt p = cc

order_gt : (a b : ℕ) → b < a → compare a b ≡ Ordering.gt
order_gt a b h = go (compare a b) (lt-leb a b h)
  where
    go : (o : Ordering) → is_le o ≡ false → o ≡ Ordering.gt
    go Ordering.lt p = cc
    go Ordering.eq p = cc
    go Ordering.gt p = refl

pub closest_below : (a b : ℕ) → a % b * 2 < b → a / b ≡ closest a b
closest_below a b h = ap (nearest (a / b)) (sym (order_lt (a % b * 2) b h))

pub closest_above : (a b : ℕ) → b < a % b * 2 → a / b + 1 ≡ closest a b
closest_above a b h = add-one (a / b) ∙ ap (nearest (a / b)) (sym (order_gt (a % b * 2) b h))

pub closest_tie : (a b : ℕ) → a % b * 2 ≡ b → a / b + a / b % 2 ≡ closest a b
closest_tie a b h = ap (nearest (a / b)) (sym (order_eq (a % b * 2) b h))

-- below a half
none : (a h b : ℕ) → a < h → h * 2 ≡ b → closest a b ≡ 0
none a h b l e =
    let m : a % b ≡ a = mod-eq_of_lt (omega arith) in
    sym (closest_below a b (omega arith)) ∙ div-eq_of_lt (omega arith)

-- ---- a float's rounding by any fraction that it equals
record Valued (x : Float) (s : Bool) (n : ℕ) : Type 0 where
  rounded : rounded_of x ≡ signed_of s n
  good : (r : Range) → is_good r x ≡ is_within r (signed_of s n)

valued : (x : Float) (s : Bool) (a c : ℕ) → 0 < c → HasValue x s a c → Valued x s (closest a c)
unfolding rounded_of is_good
valued nan s a c h v = absurd v
valued (inf t) s a c h v = absurd v
valued (fin t m e) s a c h v =
    let k : signed_of t (closest (m * up e) (down e)) ≡ signed_of s (closest a c) = rw (v.0, closest_same (m * up e) (down e) a c (down_pos e) h v.1) in
    record { rounded = k; good = λ r. ap (is_within r) k }

-- ---- the fields
digits_lt : (t : ℕ) → t < 8388608 → 8388608 + t < 2 ^ 24
digits_lt t h = omega arith

small : (x t : ℕ) → suc x < 126 → t < 8388608 → (8388608 + t) * 2 ^ x < 2 ^ 148
small x t h d = lt_of_lt_of_le (shl_lt 24 x (digits_lt t d)) (pow_mono (let e : 24 + x ≤ 148 = omega arith in e))

shifted : (m x k : ℕ) → x + k ≡ 149 → closest (m * 2 ^ x) (2 ^ 149) ≡ closest m (2 ^ k)
shifted m x k e =
    closest_same (m * 2 ^ x) (2 ^ 149) m (2 ^ k) (pow_pos 149) (pow_pos k)
    (mul_assoc m (2 ^ x) (2 ^ k) ∙ ap (λ (z : ℕ). m * z) (sym (pow-add 2 x k) ∙ ap (λ (z : ℕ). 2 ^ z) e))

pub size_low : (f t : ℕ) → f < 126 → 0 ≡ size_of f t
unfolding size_of
size_low f t h = rw (lt-ltb f 126 h)

pub size_high : (f t : ℕ) → 126 ≤ f → closest (8388608 + t) (2 ^ (150 - f)) ≡ size_of f t
unfolding size_of
size_high f t h = rw (le-ltb f 126 h)

-- the unit of a field, as code shifts it
pub unit_is : (f : ℕ) → 126 ≤ f → 1 * 2 ^ (150 - f) % 4294967296 ≡ 2 ^ (150 - f)
unit_is f h = ap (λ (z : ℕ). z % 4294967296) (one-mul (2 ^ (150 - f))) ∙ mod-eq_of_lt (pow-lt {j = 32} (omega arith))

pub unit_pos : (f : ℕ) → 126 ≤ f → 0 < 1 * 2 ^ (150 - f) % 4294967296
unit_pos f h = rw (unit_is f h) (pow_pos (150 - f))

-- the exponent's field is suc x
size_some : (x t : ℕ) → suc x ≤ 150 → t < 8388608 → closest ((8388608 + t) * 2 ^ x) (2 ^ 149) ≡ size_of (suc x) t
size_some x t h d = elim (either (ltb (suc x) 126)) [
  | inl l ↦ let g = ltb→lt (suc x) 126 l in none ((8388608 + t) * 2 ^ x) (2 ^ 148) (2 ^ 149) (small x t g d) refl ∙ size_low (suc x) t g
  | inr l ↦ shifted (8388608 + t) x (150 - suc x) (omega arith) ∙ size_high (suc x) t (nltb→le (suc x) 126 l)
]

size_none : (t : ℕ) → t < 8388608 → closest (t * 2 ^ 0) (2 ^ 149) ≡ size_of 0 t
size_none t d = none (t * 2 ^ 0) (2 ^ 148) (2 ^ 149) (lt_of_lt_of_le (shl_lt 23 0 d) (pow_mono (let e : 23 + 0 ≤ 148 = omega arith in e))) refl ∙ size_low 0 t (lit< tt)

-- 2 ^ 24 or more
large : (x t : ℕ) → 150 ≤ x → 16777216 ≤ closest ((8388608 + t) * 2 ^ x) (2 ^ 149)
large x t h =
    closest_mono 16777216 1 ((8388608 + t) * 2 ^ x) (2 ^ 149) (lit< tt) (pow_pos 149)
    (le_trans (mul-le-mul (let e : 8388608 ≤ 8388608 + t = omega arith in e) (pow_mono h)) (le_of_eq (sym (mul-one ((8388608 + t) * 2 ^ x)))))

-- ---- in range
pub within_size : (r : Range) (s : Bool) (n : ℕ) → is_within r (signed_of s n) ≡ leb n (most r s)
unfolding is_within signed_of
within_size r true zero = le-leb 0 r.above (omega arith) ∙ sym (le-leb 0 r.below (omega arith))
within_size r true (suc n) = refl
within_size r false n = refl

most_below : (r : Range) (s : Bool) → r.below < 16777216 → r.above < 16777216 → most r s < 16777216
most_below r true b a = b
most_below r false b a = a

not_finite : (r : Range) (b s : Bool) → is_good r (cond b (inf s) nan) ≡ false
unfolding is_good
not_finite r true s = refl
not_finite r false s = refl

-- what the fields say: refused above a field of 150, and below it the size
module _ (r : Range) (s : Bool) (t : ℕ) where
  far_some : (x : ℕ) (b : Bool) → r.below < 16777216 → r.above < 16777216 → 150 ≤ x → is_good r (cond b (cond (eqb t 0) (inf s) nan) (odd 24 s (8388608 + t) x 149)) ≡ false
  far_some x true k j h = not_finite r (eqb t 0) s
  far_some x false k j h =
      let n = closest ((8388608 + t) * 2 ^ x) (2 ^ 149) in
      (valued (odd 24 s (8388608 + t) x 149) s ((8388608 + t) * 2 ^ x) (2 ^ 149) (pow_pos 149) (odd_sign 24 s (8388608 + t) x 149)).good r
      ∙ within_size r s n ∙ lt-leb n (most r s) (lt_of_lt_of_le (most_below r s k j) (large x t h))

  far_fields : (f : ℕ) → r.below < 16777216 → r.above < 16777216 → 150 < f → is_good r (of_fields binary32 s f t) ≡ false
  unfolding of_fields
  far_fields zero k j h = absurd (let z : ⊥ = omega arith in z)
  far_fields (suc x) k j h = far_some x (eqb (suc x) 255) k j (omega arith)

near_fields : (s : Bool) (f t : ℕ) → f ≤ 150 → t < 8388608 → Valued (of_fields binary32 s f t) s (size_of f t)
unfolding of_fields
near_fields s zero t h d = rw (size_none t d) at (valued (odd 24 s t 0 149) s (t * 2 ^ 0) (2 ^ 149) (pow_pos 149) (odd_sign 24 s t 0 149))
near_fields s (suc x) t h d =
    rw (ne_eqb (suc x) 255 (λ e. omega arith))
    (rw (size_some x t h d) at (valued (odd 24 s (8388608 + t) x 149) s ((8388608 + t) * 2 ^ x) (2 ^ 149) (pow_pos 149) (odd_sign 24 s (8388608 + t) x 149)))

-- ---- what code finds, for a table's range
digits_of : (w : ℕ) → w % 8388608 < 8388608
digits_of w = omega arith

module _ (table : Table) (w : ℕ) where
  pub far_bad : 150 < w % 2147483648 / 8388608 → Rounds (range_of table) w None
  unfolding of_bits
  far_bad h =
      let below : (range_of table).below < 16777216 = omega (arith, most_few table true) in
      let above : (range_of table).above < 16777216 = omega (arith, most_few table false) in
      far_fields (range_of table) (leb 2147483648 w) (w % 8388608) (w % 2147483648 / 8388608) below above h

  module _ (h : w % 2147483648 / 8388608 ≤ 150) (n : ℕ) (e : n ≡ size_of (w % 2147483648 / 8388608) (w % 8388608)) (m : ℕ) (f : m ≡ most (range_of table) (leb 2147483648 w)) where
    here : Valued (of_bits binary32 w) (leb 2147483648 w) n
    unfolding of_bits
    here = rw e (near_fields (leb 2147483648 w) (w % 2147483648 / 8388608) (w % 8388608) h (digits_of w))

    in_range : is_good (range_of table) (of_bits binary32 w) ≡ leb n m
    in_range = here.good (range_of table) ∙ within_size (range_of table) (leb 2147483648 w) n ∙ ap (leb n) (sym f)

    pub size_bad : m < n → Rounds (range_of table) w None
    size_bad l = in_range ∙ lt-leb n m l

    pub size_good : n ≤ m → Rounds (range_of table) w (Some (record { negative = leb 2147483648 w; size = n }))
    size_good l = (in_range ∙ le-leb n m l, here.rounded)

-- ---- a point, by what code found of its two words
module _ (r : Range) (x y : ℕ) where
  pub aims_bad_x : Rounds r x None → Aims r x y None
  aims_bad_x e = rw e

  pub aims_bad_y : (n : Signed) → Rounds r x (Some n) → Rounds r y None → Aims r x y None
  aims_bad_y n e f = rw (e.0, f)

  pub aims_to : (n m : Signed) → Rounds r x (Some n) → Rounds r y (Some m) → Aims r x y (Some (record { x = n; y = m }))
  unfolding point_of
  aims_to n m e f = (rw (e.0, f.0), rw (e.1, f.1))
