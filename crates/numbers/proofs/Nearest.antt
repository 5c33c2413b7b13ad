-- From 2 ^ 23 to 2 ^ 24 binary32 rounds a fraction to the nearest whole number (`round_closest`), which is less than 1 away. And what
-- differences and comparisons of values say. Assumes nothing.
use Rattle.std.proofs.Common.{◌≡◌, ℕ, suc, ◌+◌, ◌-◌, ◌*◌, ◌/◌, ◌%◌, ◌^◌, ◌<◌, ◌≤◌, Bool, true, false, cond, not, T, sym, ap, ◌∙◌, subst, true≢false, le_trans, le_of_eq, lt_of_lt_of_le, le_of_suc-le-suc, lt_of_le_of_lt, mul-le-mul_right, zero-lt-suc, mul_assoc, mul_comm, div-lt_iff_lt-mul, le_antisymm, mul-lt-mul_of_pos_right, mul-pos, lt_of_not-le, le-div_iff_mul-le, mul-one, mul_right_comm, not-le_of_lt, div-one, arith, lit<, ltb→lt, nltb→le, pow_pos, pow_mono, le-ltb}
use Prim.Native.Nat.{compare}
use native.Mathlib.Nat.{eq_of_mul-eq-mul_right, mod-one}
use lib.Ieee.{Float, nan, inf, fin, binary32, up, down, size, nearest, units, round, neg, sum, add, sub, lt}
use lib.Ieee.Digits.{size-lt, size-le}
use lib.Ieee.Fits.{down_pos, nearest-le, round_is}
use lib.Ieee.Exact.{HasValue, units_val}
use lib.Ieee.Nearest.{closest, closest_mono, closest_same, nearest-ge}
use lib.Ieee.Order.{transfer}
use lib.Ieee.Scale.{round_same}
use Rattle.numbers.specs.Whole.{quot}
use Rattle.numbers.specs.WholeLaws.{quot_down, quot_up}

-- ---- from 2 ^ 23 to 2 ^ 24 a fraction is rounded to the nearest whole number
room : (w p : ℕ) → w ≤ 16777216 → 0 < p → w * p < 340282366920938463463374607431768211456 * p
room w p h k = lt_of_le_of_lt (mul-le-mul_right p h) (mul-lt-mul_of_pos_right (lit< tt) k)

per_one : (x : Float) (w p : ℕ) → 0 < p → HasValue x false (w * p) p → HasValue x false w 1
per_one nan w p P v = v
per_one (inf t) w p P v = v
per_one (fin t m e) w p P v = (v.0, eq_of_mul-eq-mul_right p P (m * up e * 1) (w * down e) (ap (λ (z : ℕ). z * p) (mul-one (m * up e)) ∙ v.1 ∙ mul_right_comm w p (down e)))

exactly : (z : ℕ) → z ≤ 173 → 172 < z → z - 24 ≡ 149
exactly z h k = omega arith

module _ (n d : ℕ) (D : 0 < d) (low : 8388608 * d ≤ n) (high : n < 16777216 * d) where
  dropped : size (n * 2 ^ 149 / d) - 24 ≡ 149
  dropped =
      let w = n * 2 ^ 149 / d in
      let l : 2 ^ 172 ≤ w = (le-div_iff_mul-le D).1 (le_trans (le_of_eq (mul_right_comm 8388608 (2 ^ 149) d)) (mul-le-mul_right (2 ^ 149) low)) in
      let h : w < 2 ^ 173 = (div-lt_iff_lt-mul D).1 (lt_of_lt_of_le (mul-lt-mul_of_pos_right high (pow_pos 149)) (le_of_eq (mul_right_comm 16777216 d (2 ^ 149)))) in
      exactly (size w) (size-le w 173 h) (lt_of_not-le (λ (g : size w ≤ 172). not-le_of_lt (lt_of_lt_of_le (size-lt w) (pow_mono g)) l))

  pub closest_small : closest n d ≤ 16777216
  closest_small = le_trans (nearest-le (n / d) (compare (n % d * 2) d)) ((div-lt_iff_lt-mul D).1 high)

  pub round_closest : HasValue (round binary32 false n d) false (closest n d) 1
  round_closest =
      let p = 2 ^ 149 in
      let is : round binary32 false n d ≡ units binary32 false (closest n d) 149 =
      round_is binary32 false n d
      ∙ ap (λ (k : ℕ). units binary32 false (closest (n * p) (d * 2 ^ k)) k) dropped
      ∙ ap (λ (w : ℕ). units binary32 false w 149) (closest_same (n * p) (d * p) n d (mul-pos D (pow_pos 149)) D (mul_assoc n p d ∙ ap (λ (z : ℕ). n * z) (mul_comm p d))) in
      per_one (round binary32 false n d) (closest n d) p (pow_pos 149)
      (subst (λ (x : Float). HasValue x false (closest n d * p) p) (sym is) (units_val binary32 false (closest n d) 149 (room (closest n d) p closest_small (pow_pos 149))))

  pub closest_large : 8388608 ≤ closest n d
  closest_large = le_trans ((le-div_iff_mul-le D).1 low) (nearest-ge (n / d) (compare (n % d * 2) d))

-- the nearest whole number is less than 1 away
closest_whole : (k : ℕ) → closest k 1 ≡ k
closest_whole k = ap (λ (r : ℕ). nearest (k / 1) (compare (r * 2) 1)) (mod-one k) ∙ div-one k

pub above : (n d : ℕ) → 0 < d → closest n d * d < n + d
above n d D =
    let q = quot true n d in
    let h = quot_up n d D in
    lt_of_le_of_lt (mul-le-mul_right d (le_trans (closest_mono n d q 1 D (zero-lt-suc 0) (le_trans (le_of_eq (mul-one n)) h.0)) (le_of_eq (closest_whole q)))) h.1

pub below : (n d : ℕ) → 0 < d → n < (closest n d + 1) * d
below n d D = lt_of_lt_of_le (quot_down n d D).1 (mul-le-mul_right d (more (n / d) (closest n d) (nearest-ge (n / d) (compare (n % d * 2) d))))
  where
    more : (q w : ℕ) → q ≤ w → q + 1 ≤ w + 1
    more q w h = omega arith

-- ---- a difference of whole numbers
taken : (a b c k j : ℕ) → a ≡ (k + j) * c → b ≡ j * c → (b ≤ a) × (a - b ≡ k * c)
taken a b c k j p q = (omega arith, omega arith)

pub sub_whole : (x y : Float) (k j : ℕ) → HasValue x false (k + j) 1 → HasValue y false j 1 → sub binary32 x y ≡ round binary32 false k 1
unfolding sub add neg sum
sub_whole nan y k j v w = absurd v
sub_whole (inf s) y k j v w = absurd v
sub_whole (fin s m e) nan k j v w = absurd w
sub_whole (fin s m e) (inf t) k j v w = absurd w
sub_whole (fin true m e) (fin t n g) k j v w = absurd (true≢false v.0)
sub_whole (fin false m e) (fin true n g) k j v w = absurd (true≢false w.0)
sub_whole (fin false m e) (fin false n g) k j v w =
    let a = m * up e * down g in
    let b = n * up g * down e in
    let c = down e * down g in
    let t = taken a b c k j
    (ap (λ (z : ℕ). z * down g) (sym (mul-one (m * up e)) ∙ v.1) ∙ mul_assoc (k + j) (down e) (down g))
    (ap (λ (z : ℕ). z * down e) (sym (mul-one (n * up g)) ∙ w.1) ∙ mul_right_comm j (down g) (down e) ∙ mul_assoc j (down e) (down g)) in
    ap (λ (z : Bool). cond z (round binary32 true (b - a) c) (round binary32 false (a - b) c)) (le-ltb a b t.0)
    ∙ round_same binary32 false (a - b) c k 1 (mul-pos (down_pos e) (down_pos g)) (zero-lt-suc 0) (mul-one (a - b) ∙ t.1)

-- ---- two values that are not negative, compared
pub lt_values : (x y : Float) (a c b d : ℕ) → 0 < c → 0 < d → HasValue x false a c → HasValue y false b d → (T (lt x y) → a * d < b * c) × (T (not (lt x y)) → b * c ≤ a * d)
unfolding lt
lt_values nan y a c b d C D v w = absurd v
lt_values (inf s) y a c b d C D v w = absurd v
lt_values (fin s m e) nan a c b d C D v w = absurd w
lt_values (fin s m e) (inf t) a c b d C D v w = absurd w
lt_values (fin true m e) (fin t n g) a c b d C D v w = absurd (true≢false v.0)
lt_values (fin false m e) (fin true n g) a c b d C D v w = absurd (true≢false w.0)
lt_values (fin false m e) (fin false n g) a c b d C D v w =
    let A = m * up e in
    let B = n * up g in (
      (λ h. lt_of_not-le (λ (k : b * c ≤ a * d). not-le_of_lt (ltb→lt (A * down g) (B * down e) h) (transfer B A (down g) (down e) b a d c D C w.1 v.1 k))),
      (λ h. transfer b a d c B A (down g) (down e) (down_pos g) (down_pos e) (sym w.1) (sym v.1) (nltb→le (A * down g) (B * down e) h)),
    )

-- ---- what is no more than a / d, and one more is above it, is the quotient; and the same rounded up
pub is_quot : (a d k : ℕ) → 0 < d → k * d ≤ a → a < k * d + d → k ≡ a / d
is_quot a d k D h l = le_antisymm ((le-div_iff_mul-le D).1 h) (le_of_suc-le-suc ((div-lt_iff_lt-mul D).1 (lt_of_lt_of_le l (le_of_eq (next k d)))))
  where
    next : (k d : ℕ) → k * d + d ≡ suc k * d
    next k d = omega arith

pub is_quot_up : (a d k : ℕ) → 0 < d → a ≤ k * d → k * d < a + d → k ≡ quot true a d
is_quot_up a d k D h l = is_quot (a + (d - 1)) d k D (omega arith) (omega arith)
