-- The sum of two squares in f64: a square of an f32 is exact there, so the sum is rounded once, and its first digits say between which numbers the exact sum lies. Assumes nothing.
use Rattle.std.proofs.Common.{◌≡◌, ℕ, zero, suc, ◌+◌, ◌-◌, ◌*◌, ◌/◌, ◌%◌, ◌^◌, ◌<◌, ◌≤◌, min, Bool, true, false, cond, not, T, eqb, ltb, sym, refl, ap, ◌∙◌, subst, inl, inr, le_trans, le_of_eq, lt_of_lt_of_le, le_of_suc-le-suc, lt_of_le_of_lt, le_of_lt, lt_irrefl, mul-le-mul_right, mul_assoc, add-mul, add_comm, mul-lt-mul_of_pos_right, mul-pos, lt_of_not-le, zero-add, mul-one, div-mul-le_self, le_of_mul-le-mul_right, arith, lit<, pow_pos, pow_mono, pow-add, shl_lt, ne_eqb}
use native.Mathlib.Decide.{dec_lt}
use borrow.Author.Tests.{lt-leb}
use lib.Ieee.{Float, nan, inf, fin, Format, prec, emax, low, binary32, binary64, unlike, odd, units, round, sum, add, mul, of_bits, to_bits, of_fields, fits, is_nan}
use lib.Ieee.Bits.{of_bits-to_bits}
use lib.Ieee.Exact.{HasValue, odd_sign, round_exact}
use lib.Ieee.Fits.{add-fits, round_is}
use lib.Ieee.Order.{round_mono}
use lib.Ieee.Scale.{round_same}
use Rattle.laws.specs.Dyadic.{mul_value, add_value, le_values}
use Rattle.laws.specs.NotFinite.{Stray, stray_add, add_stray, stray_mul}
use Rattle.roots.specs.Root.{hypot_of}
use Rattle.roots.specs.Nearest.{Kept}
use Rattle.roots.specs.Rules.{hypot_infinity, hypot_infinity_2}
use Rattle.roots.specs.Parts.{mag_bits, top_digits, Settled, root_bits}
use Rattle.roots.proofs.Patterns.{Worth, worth, infinite, tiny, full, inf_pattern, plus_inf, pair_of}
use Rattle.roots.proofs.Squares.{rescaled}
use Rattle.roots.proofs.Sums.{both, square_of_lem, leading, far, less}
use Rattle.roots.proofs.Candidates.{square_le, top_ge, top_lt, under_cap, alone, sum_settled}

-- ---- the value of an f64's pattern, where it is no subnormal's

field : (x t : ℕ) → x < 2046 → HasValue (of_fields binary64 false (suc x) t) false ((t + 2 ^ 52) * 2 ^ x) (2 ^ 1074)
unfolding of_fields
field x t h =
    subst (λ (b : Bool). HasValue (cond b (cond (eqb t 0) (inf false) nan) (odd 53 false (2 ^ 52 + t) x 1074)) false ((t + 2 ^ 52) * 2 ^ x) (2 ^ 1074)) (sym (ne_eqb (suc x) 2047 (λ z. lt_irrefl 0 (omega arith))))
    (subst (λ (m : ℕ). HasValue (odd 53 false (2 ^ 52 + t) x 1074) false (m * 2 ^ x) (2 ^ 1074)) (add_comm (2 ^ 52) t) (odd_sign 53 false (2 ^ 52 + t) x 1074))

wide_value : (i : ℕ) → 2 ^ 52 ≤ i → i < 2047 * 2 ^ 52 → HasValue (of_bits binary64 i) false ((i % 2 ^ 52 + 2 ^ 52) * 2 ^ (i / 2 ^ 52 - 1)) (2 ^ 1074)
unfolding of_bits
wide_value i h l =
    let W = (i % 2 ^ 52 + 2 ^ 52) * 2 ^ (i / 2 ^ 52 - 1) in
    let e : i % 2 ^ 63 / 2 ^ 52 ≡ suc (i / 2 ^ 52 - 1) = (let z : i % 2 ^ 63 ≡ i = omega arith in omega arith) in
    subst (λ (b : Bool). HasValue (of_fields binary64 b (i % 2 ^ 63 / 2 ^ 52) (i % 2 ^ 52)) false W (2 ^ 1074)) (sym (lt-leb (2 ^ 63) i (omega arith)))
    (subst (λ (x : ℕ). HasValue (of_fields binary64 false x (i % 2 ^ 52)) false W (2 ^ 1074)) (sym e) (field (i / 2 ^ 52 - 1) (i % 2 ^ 52) (omega arith)))

-- ---- a finite number as a whole number of at most 24 digits, m * 2 ^ t

record Short (b : ℕ) : Type 0 where
  m : ℕ
  t : ℕ
  kept : Kept m t
  place : t ≡ b / 2 ^ 23 - 1
  bits : t * 2 ^ 23 + m ≡ b
  is : m * 2 ^ t ≡ mag_bits b

short : (b : ℕ) → Short b
short b = elim (dec_lt b (2 ^ 23)) [
  | yes l ↦ record { m = b % 2 ^ 23; t = 0; kept = (omega arith, inl refl); place = omega arith; bits = omega arith; is = mul-one (b % 2 ^ 23) ∙ tiny b (omega arith) }
  | no f ↦ (let g = le_of_suc-le-suc (lt_of_not-le f) in record { m = b % 2 ^ 23 + 2 ^ 23; t = b / 2 ^ 23 - 1; kept = (omega arith, inr (omega arith)); place = refl; bits = omega arith; is = full b (λ z. lt_irrefl 0 (omega arith)) })
]

-- beside a zero, and beside a number far below it, it is the root
beside_zero : (b : ℕ) → b < 0x7f80_0000 → root_bits 2 (both 0 (mag_bits b)) b
beside_zero b h =
    let S = short b in
    subst (root_bits 2 (both 0 (mag_bits b))) S.bits
    (under_cap 2 (both 0 (mag_bits b)) (S.t * 2 ^ 23 + S.m) (subst (λ (n : ℕ). n < 0x7f80_0000) (sym S.bits) h)
    (subst (λ (A : ℕ). root_bits 2 A (min (S.t * 2 ^ 23 + S.m) 0x7f80_0000)) (sym (square_of_lem S.m S.t) ∙ ap (λ (a : ℕ). a * a) S.is ∙ sym (zero-add (mag_bits b * mag_bits b))) (alone S.m S.t S.kept)))

beside_far : (a b : ℕ) → a < 0x7f80_0000 → b + 14 * 2 ^ 23 < a → root_bits 2 (both (mag_bits a) (mag_bits b)) a
beside_far a b A h =
    let S = short a in
    let R = short b in
    let p = S.place in
    let q = R.place in
    let d : R.t + (S.t - R.t) ≡ S.t = omega arith in
    let f : 12 < S.t - R.t = omega arith in
    subst (λ (x : ℕ). root_bits 2 (both x (mag_bits b)) a) S.is
    (far S.m S.t (mag_bits b) S.kept.0 (leading _ _ (omega arith) S.kept.1) (subst (λ (y : ℕ). y ≤ 2 ^ 11 * 2 ^ S.t) R.is (less R.m S.t R.t (S.t - R.t) R.kept.0 d f)) a S.bits A)

-- ---- the squares, which are exact, and their sum

like : (s : Bool) → unlike s s ≡ false
like true = refl
like false = refl

square_lt : (m : ℕ) → m < 2 ^ 24 → m * m < 2 ^ 53
square_lt m h = lt_of_le_of_lt (square_le m (le_of_lt h)) (lit< tt)

square_exact : (m t : ℕ) → m < 2 ^ 24 → t ≤ 253 → HasValue (round binary64 false (m * 2 ^ t * (m * 2 ^ t)) (2 ^ 298)) false (m * 2 ^ t * (m * 2 ^ t)) (2 ^ 298)
square_exact m t M H =
    round_exact binary64 false (m * 2 ^ t * (m * 2 ^ t)) (2 ^ 298) (m * m) (2 * t + 776) (pow_pos 298) (square_lt m M)
    (lt_of_lt_of_le (shl_lt 53 (2 * t + 776) (square_lt m M)) (pow_mono {i = 53 + (2 * t + 776)} {j = 2098} (omega arith)))
    (ap (λ (x : ℕ). x * 2 ^ 1074) (square_of_lem m t) ∙ rescaled (m * m) (2 * t) 1074 (2 * t + 776) 298 (omega arith))

square_value : (x : Float) (s : Bool) (n : ℕ) → Worth x s (mag_bits n) → n < 0x7f80_0000 → HasValue (mul binary64 x x) false (mag_bits n * mag_bits n) (2 ^ 298)
square_value x s n w h =
    let a = mag_bits n in
    let S = short n in
    let p = S.place in
    subst (λ (v : Float). HasValue v false (a * a) (2 ^ 298))
    (sym (mul_value binary64 x x s s a (2 ^ 149) a (2 ^ 149) (pow_pos 149) (pow_pos 149) w w ∙ ap (λ (b : Bool). round binary64 b (a * a) (2 ^ 298)) (like s)))
    (subst (λ (z : ℕ). HasValue (round binary64 false (z * z) (2 ^ 298)) false (z * z) (2 ^ 298)) S.is (square_exact S.m S.t S.kept.0 (omega arith)))

sum_value : (x y : Float) (a b C : ℕ) → 0 < C → HasValue x false a C → HasValue y false b C → add binary64 x y ≡ round binary64 false (a + b) C
sum_value x y a b C P v w =
    add_value binary64 x y false a C b C P P v w
    ∙ round_same binary64 false (a * C + b * C) (C * C) (a + b) C (mul-pos P P) P (ap (λ (z : ℕ). z * C) (sym (add-mul a b C)) ∙ mul_assoc (a + b) C C)

-- ---- a sum of squares is no NaN: a square has no minus sign

abbrev plus : Float → Bool
plus nan = false
plus (inf s) = not s
plus (fin s m e) = not s

plus_odd : (d q k l : ℕ) → T (plus (odd d false q k l))
unfolding odd
plus_odd d zero k l = tt
plus_odd d (suc q) k l = tt

plus_units : (f : Format) (q k : ℕ) → T (plus (units f false q k))
unfolding units
plus_units f q k = go (ltb (q * 2 ^ k) (2 ^ (low f + suc (emax f))))
  where
    go : (b : Bool) → T (plus (cond b (odd (suc (prec f)) false q k (low f)) (inf false)))
    go true = plus_odd (suc (prec f)) q k (low f)
    go false = tt

plus_round : (f : Format) (s : Bool) (a c : ℕ) → s ≡ false → T (plus (round f s a c))
plus_round f s a c e = subst (λ (t : Bool). T (plus (round f t a c))) (sym e) (subst (λ (v : Float). T (plus v)) (sym (round_is f false a c)) (plus_units f _ _))

plus_square : (f : Format) (x : Float) → T (not (is_nan x)) → T (plus (mul f x x))
unfolding mul is_nan
plus_square f nan h = absurd h
plus_square f (inf true) h = tt
plus_square f (inf false) h = tt
plus_square f (fin s m e) h = plus_round f (unlike s s) _ _ (like s)

plus_add : (f : Format) (x y : Float) → T (plus x) → T (plus y) → T (plus (add f x y))
unfolding add sum
plus_add f nan y h k = absurd h
plus_add f (inf true) y h k = absurd h
plus_add f (inf false) nan h k = absurd k
plus_add f (inf false) (inf true) h k = absurd k
plus_add f (inf false) (inf false) h k = tt
plus_add f (inf false) (fin t n d) h k = tt
plus_add f (fin s m e) nan h k = absurd k
plus_add f (fin s m e) (inf t) h k = k
plus_add f (fin true m e) (fin t n d) h k = absurd h
plus_add f (fin false m e) (fin true n d) h k = absurd k
plus_add f (fin false m e) (fin false n d) h k = plus_round f false _ _ refl

plus_number : (x : Float) → T (plus x) → T (not (is_nan x))
unfolding is_nan
plus_number nan h = absurd h
plus_number (inf s) h = tt
plus_number (fin s m e) h = tt

pub sum_number : (x y : Float) → T (not (is_nan x)) → T (not (is_nan y)) → T (not (is_nan (add binary64 (mul binary64 x x) (mul binary64 y y))))
sum_number x y N O = plus_number _ (plus_add binary64 _ _ (plus_square binary64 x N) (plus_square binary64 y O))

-- ---- between which numbers the sum A lies, by the digits of what it is rounded to

module _ (A j : ℕ) (J : j < 508 * 2 ^ 52) (W : HasValue (round binary64 false A (2 ^ 298)) false ((j % 2 ^ 52 + 2 ^ 52) * 2 ^ (j / 2 ^ 52 + 770)) (2 ^ 1074)) where
  abbrev D : ℕ
  D = j / 2 ^ 53

  abbrev digits : ℕ
  digits = (j % 2 ^ 52 + 2 ^ 52) * 2 ^ (j / 2 ^ 52 % 2)

  abbrev value : ℕ
  value = (j % 2 ^ 52 + 2 ^ 52) * 2 ^ (j / 2 ^ 52 + 770)

  value_is : value ≡ digits * 2 ^ (2 * D + 770)
  value_is =
      let e : j / 2 ^ 52 + 770 ≡ j / 2 ^ 52 % 2 + (2 * D + 770) = omega arith in
      ap (λ (x : ℕ). (j % 2 ^ 52 + 2 ^ 52) * 2 ^ x) e ∙ ap (λ (x : ℕ). (j % 2 ^ 52 + 2 ^ 52) * x) (pow-add 2 (j / 2 ^ 52 % 2) (2 * D + 770)) ∙ sym (mul_assoc (j % 2 ^ 52 + 2 ^ 52) (2 ^ (j / 2 ^ 52 % 2)) (2 ^ (2 * D + 770)))

  six_more : (s : ℕ) → s * 64 * 2 ^ (2 * D + 770) ≡ s * 2 ^ (2 * D + 776)
  six_more s = mul_assoc s 64 (2 ^ (2 * D + 770)) ∙ ap (λ (x : ℕ). s * x) (sym (pow-add 2 6 (2 * D + 770)) ∙ ap (λ (x : ℕ). 2 ^ x) (add_six D))
    where
      add_six : (D : ℕ) → 6 + (2 * D + 770) ≡ 2 * D + 776
      add_six D = omega arith

  value_ge : top_digits j * 2 ^ (2 * D + 776) ≤ value
  value_ge = le_trans (le_of_eq (sym (six_more (top_digits j)))) (le_trans (mul-le-mul_right (2 ^ (2 * D + 770)) (div-mul-le_self digits 64)) (le_of_eq (sym value_is)))

  value_lt : value < suc (top_digits j) * 2 ^ (2 * D + 776)
  value_lt = lt_of_le_of_lt (le_of_eq value_is) (lt_of_lt_of_le (mul-lt-mul_of_pos_right (under digits) (pow_pos (2 * D + 770))) (le_of_eq (six_more (suc (top_digits j)))))
    where
      under : (x : ℕ) → x < suc (x / 64) * 64
      under x = omega arith

  -- n * 4 ^ D / 2 ^ (298 + k) is exact in f64
  exact : (n k u : ℕ) → n < 2 ^ 53 → u + k ≡ 776 → HasValue (round binary64 false (n * 2 ^ (2 * D)) (2 ^ (298 + k))) false (n * 2 ^ (2 * D)) (2 ^ (298 + k))
  exact n k u h e =
      round_exact binary64 false (n * 2 ^ (2 * D)) (2 ^ (298 + k)) n (2 * D + u) (pow_pos (298 + k)) h
      (lt_of_lt_of_le (shl_lt 53 (2 * D + u) h) (pow_mono {i = 53 + (2 * D + u)} {j = 2098} (omega arith)))
      (rescaled n (2 * D) 1074 (2 * D + u) (298 + k) (omega arith))

  pub sum_high : A < suc (top_digits j) * 2 ^ (2 * D)
  sum_high = lt_of_not-le (λ (h : suc (top_digits j) * 2 ^ (2 * D) ≤ A).
      let n = suc (top_digits j) in
      let l = le_values (round binary64 false (n * 2 ^ (2 * D)) (2 ^ 298)) (round binary64 false A (2 ^ 298)) (n * 2 ^ (2 * D)) (2 ^ 298) value (2 ^ 1074) (pow_pos 298) (pow_pos 1074)
      (exact n 0 776 (lt_of_le_of_lt (top_lt j) (lit< tt)) refl) W (round_mono binary64 (n * 2 ^ (2 * D)) (2 ^ 298) A (2 ^ 298) (pow_pos 298) (pow_pos 298) (mul-le-mul_right (2 ^ 298) h)) in
      lt_irrefl (value * 2 ^ 298)
      (lt_of_lt_of_le (mul-lt-mul_of_pos_right value_lt (pow_pos 298)) (le_trans (le_of_eq (sym (rescaled n (2 * D) 1074 (2 * D + 776) 298 (omega arith)))) l)))

  pub sum_low : top_digits j * 4 * 2 ^ (2 * D) < A * 4 + 2 ^ (2 * D)
  sum_low = lt_of_not-le (λ (h : A * 4 + 2 ^ (2 * D) ≤ top_digits j * 4 * 2 ^ (2 * D)).
      let n = top_digits j * 4 - 1 in
      let l = le_values (round binary64 false A (2 ^ 298)) (round binary64 false (n * 2 ^ (2 * D)) (2 ^ 300)) value (2 ^ 1074) (n * 2 ^ (2 * D)) (2 ^ 300) (pow_pos 1074) (pow_pos 300) W
      (exact n 2 774 (few (top_digits j) (top_lt j)) refl) (round_mono binary64 A (2 ^ 298) (n * 2 ^ (2 * D)) (2 ^ 300) (pow_pos 298) (pow_pos 300) (quarter A (top_digits j) (2 ^ (2 * D)) (2 ^ 298) (top_ge j) h)) in
      none (top_digits j) (2 ^ (2 * D + 774)) (2 ^ 300) (top_ge j) (pow_pos (2 * D + 774)) (pow_pos 300)
      (le_trans (mul-le-mul_right (2 ^ 300) (le_trans (le_of_eq (four (top_digits j) D)) value_ge)) (le_trans l (le_of_eq (rescaled n (2 * D) 1074 (2 * D + 774) 300 (omega arith))))))
    where
      few : (s : ℕ) → s < 2 ^ 48 → s * 4 - 1 < 2 ^ 53
      few s h = omega arith

      quarter : (A s P C : ℕ) → 2 ^ 46 ≤ s → A * 4 + P ≤ s * 4 * P → A * (4 * C) ≤ (s * 4 - 1) * P * C
      quarter A (suc s) P C z h = let g : A * 4 ≤ (s * 4 + 3) * P = omega arith in let e : s * 4 + 3 ≡ suc s * 4 - 1 = omega arith in le_trans (le_of_eq (sym (mul_assoc A 4 C))) (mul-le-mul_right C (subst (λ (n : ℕ). A * 4 ≤ n * P) e g))
      quarter A zero P C z h = absurd (lt_irrefl 0 (omega arith))

      four : (s D : ℕ) → s * 4 * 2 ^ (2 * D + 774) ≡ s * 2 ^ (2 * D + 776)
      four s D = mul_assoc s 4 (2 ^ (2 * D + 774)) ∙ ap (λ (x : ℕ). s * x) (sym (pow-add 2 2 (2 * D + 774)) ∙ ap (λ (x : ℕ). 2 ^ x) (add_two D))
        where
          add_two : (D : ℕ) → 2 + (2 * D + 774) ≡ 2 * D + 776
          add_two D = omega arith

      none : (s Z C : ℕ) → 2 ^ 46 ≤ s → 0 < Z → 0 < C → s * 4 * Z * C ≤ (s * 4 - 1) * Z * C → ⊥
      none s Z C g z c h = let k = le_of_mul-le-mul_right (le_of_mul-le-mul_right h c) z in lt_irrefl 0 (omega arith)

-- ---- `hypot_near`

-- what has a value is finite
no_stray : (v : Float) (s : Bool) (a c : ℕ) → HasValue v s a c → Stray v → ⊥
no_stray nan s a c h k = h
no_stray (inf t) s a c h k = h
no_stray (fin t m e) s a c h k = k

module _ (x y : Float) (F : T (fits binary32 x)) (G : T (fits binary32 y)) (N : T (not (is_nan x))) (O : T (not (is_nan y))) where
  abbrev a : ℕ
  a = to_bits binary32 x % 2 ^ 31

  abbrev b : ℕ
  b = to_bits binary32 y % 2 ^ 31

  abbrev Is : ℕ → Type 0
  Is r = (r ≤ 0x7f80_0000) × (of_bits binary32 r ≡ hypot_of x y)

  is_inf : (u : Float) (s : Bool) → u ≡ inf s → to_bits binary32 u % 2 ^ 31 ≡ 0x7f80_0000
  is_inf u s e = ap (λ (v : Float). to_bits binary32 v % 2 ^ 31) e ∙ inf_pattern s

  of_inf : (r : ℕ) → r ≡ 0x7f80_0000 → hypot_of x y ≡ inf false → Is r
  of_inf r e h = (le_of_eq e, ap (λ (n : ℕ). of_bits binary32 n) e ∙ plus_inf ∙ sym h)

  pub zero_side : a ≡ 0 → Is b
  zero_side e = elim (dec_lt b 0x7f80_0000) [
    | yes l ↦ (le_of_lt l, pair_of x y b F G (subst (λ (n : ℕ). n < 0x7f80_0000) (sym e) (lit< tt)) l (subst (λ (n : ℕ). root_bits 2 (both (mag_bits n) (mag_bits b)) b) (sym e) (beside_zero b l)))
    | no f ↦ (let z = infinite y G O (le_of_suc-le-suc (lt_of_not-le f)) in of_inf b (is_inf y _ z) (ap (λ (v : Float). hypot_of x v) z ∙ hypot_infinity_2 x _))
  ]

  pub far_side : b + 14 * 2 ^ 23 < a → Is a
  far_side h = elim (dec_lt a 0x7f80_0000) [
    | yes l ↦ (le_of_lt l, pair_of x y a F G l (omega arith) (beside_far a b l h))
    | no f ↦ (let z = infinite x F N (le_of_suc-le-suc (lt_of_not-le f)) in of_inf a (is_inf x _ z) (ap (λ (v : Float). hypot_of v y) z ∙ hypot_infinity _ y))
  ]

  module _ (j : ℕ) (J : j < 508 * 2 ^ 52) (is : (j + 0x3030_0000_0000_0000) % 2 ^ 64 ≡ to_bits binary64 (add binary64 (mul binary64 x x) (mul binary64 y y))) where
    abbrev v : Float
    v = add binary64 (mul binary64 x x) (mul binary64 y y)

    v_value : HasValue v false ((j % 2 ^ 52 + 2 ^ 52) * 2 ^ (j / 2 ^ 52 + 770)) (2 ^ 1074)
    v_value =
        let i = j + 0x3030_0000_0000_0000 in
        let e : i % 2 ^ 64 ≡ i = omega arith in
        let f : i % 2 ^ 52 ≡ j % 2 ^ 52 = omega arith in
        let g : i / 2 ^ 52 - 1 ≡ j / 2 ^ 52 + 770 = omega arith in
        subst (λ (u : Float). HasValue u false ((j % 2 ^ 52 + 2 ^ 52) * 2 ^ (j / 2 ^ 52 + 770)) (2 ^ 1074)) (ap (λ (n : ℕ). of_bits binary64 n) (sym e ∙ is) ∙ of_bits-to_bits binary64 v (add-fits binary64 (mul binary64 x x) (mul binary64 y y)))
        (subst (λ (n : ℕ). HasValue (of_bits binary64 i) false ((j % 2 ^ 52 + 2 ^ 52) * 2 ^ n) (2 ^ 1074)) g
        (subst (λ (n : ℕ). HasValue (of_bits binary64 i) false ((n + 2 ^ 52) * 2 ^ (i / 2 ^ 52 - 1)) (2 ^ 1074)) f (wide_value i (omega arith) (omega arith))))

    stray_inf : (u : Float) (s : Bool) → u ≡ inf s → Stray u
    stray_inf u s e = subst (λ (u : Float). Stray u) (sym e) tt

    a_lt : a < 0x7f80_0000
    a_lt = lt_of_not-le (λ (h : 0x7f80_0000 ≤ a). no_stray v false _ _ v_value (stray_add binary64 (mul binary64 x x) (mul binary64 y y) (stray_mul binary64 x x (stray_inf x _ (infinite x F N h)))))

    b_lt : b < 0x7f80_0000
    b_lt = lt_of_not-le (λ (h : 0x7f80_0000 ≤ b). no_stray v false _ _ v_value (add_stray binary64 (mul binary64 x x) (mul binary64 y y) (stray_mul binary64 y y (stray_inf y _ (infinite y G O h)))))

    v_is : v ≡ round binary64 false (both (mag_bits a) (mag_bits b)) (2 ^ 298)
    v_is = sum_value (mul binary64 x x) (mul binary64 y y) (mag_bits a * mag_bits a) (mag_bits b * mag_bits b) (2 ^ 298) (pow_pos 298) (square_value x _ a (worth x F a_lt) a_lt) (square_value y _ b (worth y G b_lt) b_lt)

    pub hypot_settled : (r : ℕ) → Settled j r → Is r
    hypot_settled r S =
        let A = both (mag_bits a) (mag_bits b) in
        let W = subst (λ (u : Float). HasValue u false ((j % 2 ^ 52 + 2 ^ 52) * 2 ^ (j / 2 ^ 52 + 770)) (2 ^ 1074)) v_is v_value in
        let z = sum_settled A j r J S (sum_low A j J W) (sum_high A j J W) in
        (le_of_lt z.0, pair_of x y r F G a_lt b_lt z.1)
