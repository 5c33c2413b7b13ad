-- How large a root is at most, and how large at least. Assumes nothing.
use Rattle.std.specs.Prelude.{◌≡◌, ℕ, zero, suc, ◌+◌, ◌*◌, ◌^◌, ◌<◌, ◌≤◌, Bool, true, false, not, T, ℤ, pos, ◌≢◌, refl, Float}
use Rattle.std.proofs.Common.{sym, ap, ◌∙◌, subst, inl, inr, le_trans, le_of_eq, le_of_lt, lt_of_lt_of_le, lt_of_le_of_lt, lt_of_not-le, lt_irrefl, le_of_suc-le-suc, mul-pos, mul-le-mul, mul-le-mul_right, le_of_mul-le-mul_right, mul_assoc, mul_right_comm, mul-lt-mul_of_pos_right, lt_of_mul-lt-mul_right, one-mul, mul-one, div-mul-le_self, le-div_iff_mul-le, pow-suc, arith, lit<, pow_pos}
use Rattle.std.proofs.Math.Nat.{mul-mul-mul_comm, pow-lt-pow_left}
use borrow.Author.Numbers.{squared}
use Rattle.std.proofs.Math.Decide.{dec_lt}
use Rattle.std.proofs.Math.Pow.{pow-lt}
use Rattle.std.specs.Float.{nan, inf, fin, binary32}
use Rattle.std.specs.Float.Ieee.{up, down, units, round, fits, le}
use Rattle.std.specs.Float.Ieee.Exact.{units_val}
use Rattle.std.specs.Float.Ieee.Fits.{down_pos}
use Rattle.std.specs.Float.Ieee.Order.{le_of_values}
use Rattle.std.specs.Float.Ieee.Positive.{num, den, positive, above, above_of_le, le→cross}
use Rattle.std.specs.Float.Ieee.Scale.{finite}
use Rattle.laws.specs.Binary32.{whole}
use Rattle.laws.specs.Compare.{under_zero}
use Rattle.laws.specs.NotFinite.{unsigned, unsigned_units}
use Rattle.laws.specs.Own.{fits_says, shift, shift_is}
use Rattle.laws.specs.Size.{AtMost, of_value, widened, zero_at_most}
use Rattle.laws.specs.Limits.{Small, AtLeast}
use Rattle.roots.specs.Root.{mag, sqrt_of, hypot_of}
use Rattle.roots.specs.Nearest.{Wins, Nearest}
use Rattle.roots.specs.Laws.{mul_pow, units_inf}
use Rattle.roots.specs.Rules.{sqrt_nearest, sqrt_zero, hypot_nearest}

-- ---- the nearest root of a against any number of 24 digits, U = p * 2 ^ c
at_most : {x y : ℕ} (q : ℕ) → Wins x y q → x ≤ y
at_most q (inl l) = le_of_lt l
at_most q (inr (e, v)) = le_of_eq e

more : (x y : ℕ) → x < y → x * 2 < x + y
more x y h = omega arith

less : (x y : ℕ) → y < x → x + y < x * 2
less x y h = omega arith

module _ (s : Bool) (k a p c : ℕ) (v : Float) (K : k ≡ 0 → ⊥) (short : p < 2 ^ 24) (N : Nearest s k a v) where
  -- at most U where a is at most its power: else U would be nearer
  nearest_at_most : a ≤ (p * 2 ^ c) ^ k → N.q * 2 ^ N.d ≤ p * 2 ^ c
  nearest_at_most h = elim (dec_lt (p * 2 ^ c) (N.q * 2 ^ N.d)) [
    | yes l ↦
        absurd
        (lt_irrefl (a * 2 ^ k)
        (lt_of_le_of_lt (le_trans (mul-le-mul_right (2 ^ k) h) (le_of_eq (sym (mul_pow (p * 2 ^ c) 2 k))))
        (lt_of_lt_of_le (pow-lt-pow_left (more (p * 2 ^ c) (N.q * 2 ^ N.d) l) K) (at_most N.q (N.above_less p c short l)))))
    | no n ↦ le_of_suc-le-suc (lt_of_not-le n)
  ]

  -- and at least U where a is
  nearest_at_least : (p * 2 ^ c) ^ k ≤ a → p * 2 ^ c ≤ N.q * 2 ^ N.d
  nearest_at_least h = elim (dec_lt (N.q * 2 ^ N.d) (p * 2 ^ c)) [
    | yes l ↦
        absurd
        (lt_irrefl (a * 2 ^ k)
        (lt_of_le_of_lt (at_most N.q (N.below_more p c short l))
        (lt_of_lt_of_le (pow-lt-pow_left (less (p * 2 ^ c) (N.q * 2 ^ N.d) l) K) (le_trans (le_of_eq (mul_pow (p * 2 ^ c) 2 k)) (mul-le-mul_right (2 ^ k) h)))))
    | no n ↦ le_of_suc-le-suc (lt_of_not-le n)
  ]

  value_at_most : a ≤ (p * 2 ^ c) ^ k → p * 2 ^ c < 2 ^ 277 → AtMost (p * 2 ^ c) (2 ^ 149) v
  value_at_most h l =
      let b = nearest_at_most h in
      subst (λ (v : Float). AtMost (p * 2 ^ c) (2 ^ 149) v) (sym N.value)
      (of_value (units binary32 s N.q N.d) s (N.q * 2 ^ N.d) (p * 2 ^ c) (2 ^ 149) (units_val binary32 s N.q N.d (lt_of_le_of_lt b l)) b)

no_zero : (k : ℕ) → k ≡ 2 → k ≢ 0
no_zero k e z = omega arith

-- ---- a size of at most n / d, in units: g of them, with r for the denominator, W for 2 ^ 149
fraction : (g r x n d L W B : ℕ) → 0 < d → 0 < r → g * r ≤ x * W → x * d ≤ n * r → n * W * L ≤ B * d → g * L ≤ B
fraction g r x n d L W B D R h k l =
    let i = mul-le-mul_right (L * d) h in
    let j = mul-le-mul_right (W * L) k in
    let m = mul-le-mul_right r l in
    le_of_mul-le-mul_right (join g r x n d L W B i j m) (mul-pos D R)
  where
    join : (g r x n d L W B : ℕ) → g * r * (L * d) ≤ x * W * (L * d) → x * d * (W * L) ≤ n * r * (W * L) → n * W * L * r ≤ B * d * r → g * L * (d * r) ≤ B * (d * r)
    join g r x n d L W B i j m = omega arith

mag_at_most : (m : ℕ) (e : ℤ) (n d L B : ℕ) → 0 < d → m * up e * d ≤ n * down e → n * 2 ^ 149 * L ≤ B * d → mag m e * L ≤ B
mag_at_most m e n d L B D h l = fraction (mag m e) (down e) (m * up e) n d L (2 ^ 149) B D (down_pos e) (div-mul-le_self (m * up e * 2 ^ 149) (down e)) h l

-- ---- √x is at most U units where x, which is not below zero, is at most n / d, and that at most the square of U
root_at_most : (x : Float) (n d p c : ℕ) → T (not (under_zero x)) → 0 < d → AtMost n d x
    → n * 2 ^ 149 * 2 ^ 149 ≤ (p * 2 ^ c) ^ 2 * d → p < 2 ^ 24 → p * 2 ^ c < 2 ^ 277 → AtMost (p * 2 ^ c) (2 ^ 149) (sqrt_of x)
root_at_most nan n d p c u D h l k b = absurd h
root_at_most (inf s) n d p c u D h l k b = absurd h
root_at_most (fin s zero e) n d p c u D h l k b = subst (λ (v : Float). AtMost (p * 2 ^ c) (2 ^ 149) v) (sym (sqrt_zero s e)) (zero_at_most s e (p * 2 ^ c) (2 ^ 149))
root_at_most (fin true (suc m) e) n d p c u D h l k b = absurd u
root_at_most (fin false (suc m) e) n d p c u D h l k b =
    value_at_most false 2 (mag (suc m) e * 2 ^ 149) p c (sqrt_of (fin false (suc m) e)) (no_zero 2 refl) k (sqrt_nearest m e)
    (mag_at_most (suc m) e n d (2 ^ 149) ((p * 2 ^ c) ^ 2) D h l) b

-- the same of a power of two, and of x in units, M of them
pub sqrt_at_most : (x : Float) (M c : ℕ) → T (not (under_zero x)) → AtMost M (2 ^ 149) x → M * 2 ^ 149 ≤ (2 ^ c) ^ 2 → c < 277 → AtMost (2 ^ c) (2 ^ 149) (sqrt_of x)
sqrt_at_most x M c u h l k =
    let e = one-mul (2 ^ c) in
    subst (λ (z : ℕ). AtMost z (2 ^ 149) (sqrt_of x)) e
    (root_at_most x M (2 ^ 149) 1 c u (pow_pos 149) h
    (mul-le-mul_right (2 ^ 149) (subst (λ (z : ℕ). M * 2 ^ 149 ≤ z ^ 2) (sym e) l)) (lit< tt) (subst (λ (z : ℕ). z < 2 ^ 277) (sym e) (pow-lt k)))

-- ---- a number of the format in units
module _ (n : ℕ) (k : ℤ) (F : T (fits binary32 (fin false (suc n) k))) where
  abbrev U : ℕ
  U = suc n * 2 ^ shift binary32 k

  units_are : suc n * up k * 2 ^ 149 ≡ U * down k
  units_are = shift_is binary32 (suc n) k (fits_says binary32 false n k F).fine

  short : suc n < 2 ^ 24
  short = (fits_says binary32 false n k F).small

  U_small : (w : ℕ) → suc n * up k ≤ 2 ^ w * down k → U ≤ 2 ^ w * 2 ^ 149
  U_small w h =
      le_of_mul-le-mul_right (le_trans (le_of_eq (sym units_are)) (le_trans (mul-le-mul_right (2 ^ 149) h) (le_of_eq (mul_right_comm (2 ^ w) (down k) (2 ^ 149))))) (down_pos k)

  under : U < 2 ^ 277
  under =
      lt_of_mul-lt-mul_right (down k)
      (lt_of_le_of_lt (le_of_eq (sym units_are))
      (lt_of_lt_of_le (mul-lt-mul_of_pos_right (fits_says binary32 false n k F).under (pow_pos 149)) (le_of_eq (mul_right_comm (2 ^ 128) (down k) (2 ^ 149)))))

  U_square : suc n * up k * (suc n * up k) * 2 ^ 149 * 2 ^ 149 ≡ U ^ 2 * (down k * down k)
  U_square =
      mul_assoc (suc n * up k * (suc n * up k)) (2 ^ 149) (2 ^ 149)
      ∙ mul-mul-mul_comm (suc n * up k) (suc n * up k) (2 ^ 149) (2 ^ 149)
      ∙ ap (λ (z : ℕ). z * z) units_are
      ∙ mul-mul-mul_comm U (down k) U (down k)
      ∙ ap (λ (z : ℕ). z * (down k * down k)) (sym (squared U))

-- a root of at most v² is at most v
pub sqrt_small : (x v : Float) → T (fits binary32 v) → T (positive v) → T (not (under_zero x)) → AtMost (num v * num v) (den v * den v) x → Small v (sqrt_of x)
sqrt_small x nan F P u h = absurd P
sqrt_small x (inf s) F P u h = absurd P
sqrt_small x (fin true n k) F P u h = absurd P
sqrt_small x (fin false zero k) F P u h = absurd P
sqrt_small x (fin false (suc n) k) F P u h = record {
  held = widened (sqrt_of x) (U n k F) (2 ^ 149) (suc n * up k) (down k) (pow_pos 149) (le_of_eq (sym (units_are n k F)))
      (root_at_most x (suc n * up k * (suc n * up k)) (down k * down k) (suc n) (shift binary32 k) u (mul-pos (down_pos k) (down_pos k)) h
      (le_of_eq (U_square n k F)) (short n k F) (under n k F));
}

-- ---- and of at least 1 is at least 1
least : (q d : ℕ) → 1 * 2 ^ 149 ≤ q * 2 ^ d → T (le (fin false 1 (pos 0)) (units binary32 false q d))
least q d h = elim (dec_lt (q * 2 ^ d) (2 ^ 277)) [
  | yes l ↦
      le_of_values (fin false 1 (pos 0)) (units binary32 false q d) 1 1 (q * 2 ^ d) (2 ^ 149) (pow_pos 0) (pow_pos 149) (refl, refl) (units_val binary32 false q d l)
      (le_trans h (le_of_eq (sym (mul-one (q * 2 ^ d)))))
  | no n ↦ subst (λ (v : Float). T (le (fin false 1 (pos 0)) v)) (sym (units_inf false q d (le_of_suc-le-suc (lt_of_not-le n)))) below_infinity
]
  where
    below_infinity : T (le (fin false 1 (pos 0)) (inf false))
    below_infinity = unfold le in tt

reaches : (x : Float) → T (le (fin false 1 (pos 0)) x) → T (finite x) → T (le (fin false 1 (pos 0)) (sqrt_of x))
reaches x h f = go x (above_of_le (fin false 1 (pos 0)) x tt h) h f
  where
    scaled : (r x w : ℕ) → 1 * 1 * r ≤ x * 1 → w * r ≤ x * w
    scaled r x w h = let g = mul-le-mul_right w h in omega arith

    go : (x : Float) → T (above x) → T (le (fin false 1 (pos 0)) x) → T (finite x) → T (le (fin false 1 (pos 0)) (sqrt_of x))
    go nan a h f = absurd a
    go (inf s) a h f = absurd f
    go (fin true m e) a h f = absurd a
    go (fin false zero e) a h f = absurd a
    go (fin false (suc m) e) a h f =
        let N = sqrt_nearest m e in
        let cross : 1 * 1 * down e ≤ suc m * up e * 1 = le→cross (fin false 1 (pos 0)) (fin false (suc m) e) tt a h in
        let g : 2 ^ 149 ≤ mag (suc m) e = (le-div_iff_mul-le (down_pos e)).1 (scaled (down e) (suc m * up e) (2 ^ 149) cross) in
        let b : (1 * 2 ^ 149) ^ 2 ≤ mag (suc m) e * 2 ^ 149 = le_trans (le_of_eq (squared (2 ^ 149))) (mul-le-mul_right (2 ^ 149) g) in
        subst (λ (v : Float). T (le (fin false 1 (pos 0)) v)) (sym N.value)
        (least N.q N.d (nearest_at_least false 2 (mag (suc m) e * 2 ^ 149) 1 149 (sqrt_of (fin false (suc m) e)) (no_zero 2 refl) (lit< tt) N b))

pub sqrt_least : {x : Float} → AtLeast (whole 1) x → T (finite x) → AtLeast (whole 1) (sqrt_of x)
unfolding round
sqrt_least {x} h f = record { above = tt; reached = reaches x h.reached f }

-- ---- a hypotenuse is at most twice what both sides are at most; a is small enough that twice a is finite
two_squares : (x y u : ℕ) → x ≤ u → y ≤ u → x * x + y * y ≤ (u * 2) ^ 2
two_squares x y u h k = le_trans (sum (x * x) (y * y) (u * u) (mul-le-mul h h) (mul-le-mul k k)) (le_of_eq (sym (squared (u * 2) ∙ mul-mul-mul_comm u 2 u 2)))
  where
    sum : (a b c : ℕ) → a ≤ c → b ≤ c → a + b ≤ c * 4
    sum a b c h k = omega arith

module _ (n : ℕ) (i : ℤ) (F : T (fits binary32 (fin false (suc n) i))) where
  abbrev W : ℕ
  W = U n i F

  doubled : suc n * 2 ^ suc (shift binary32 i) ≡ W * 2
  doubled = ap (λ (z : ℕ). suc n * z) (pow-suc 2 (shift binary32 i)) ∙ sym (mul_assoc (suc n) (2 ^ shift binary32 i) 2)

  side : (m : ℕ) (e : ℤ) → m * up e * down i ≤ suc n * up i * down e → mag m e ≤ W
  side m e h =
      le_trans (le_of_eq (sym (mul-one (mag m e))))
      (mag_at_most m e (suc n * up i) (down i) 1 W (down_pos i) h (le_of_eq (mul-one (suc n * up i * 2 ^ 149) ∙ units_are n i F)))

  fair : suc n * up i ≤ 2 ^ 100 * down i → W * 2 < 2 ^ 277
  fair h = lt_of_le_of_lt (mul-le-mul_right 2 (U_small n i F 100 h)) (lit< {m = 2 ^ 100 * 2 ^ 149 * 2} {n = 2 ^ 277} tt)

  twice_at_most : (v : Float) (a : ℕ) → Nearest false 2 a v → a ≤ (W * 2) ^ 2 → W * 2 < 2 ^ 277 → AtMost (suc n * up i * 2) (down i) v
  twice_at_most v a N h l =
      widened v (W * 2) (2 ^ 149) (suc n * up i * 2) (down i) (pow_pos 149)
      (le_of_eq (mul_right_comm W 2 (down i) ∙ ap (λ (z : ℕ). z * 2) (sym (units_are n i F)) ∙ mul_right_comm (suc n * up i) (2 ^ 149) 2))
      (subst (λ (z : ℕ). AtMost z (2 ^ 149) v) doubled
      (value_at_most false 2 a (suc n) (suc (shift binary32 i)) v (no_zero 2 refl) (short n i F) N
      (subst (λ (z : ℕ). a ≤ z ^ 2) (sym doubled) h) (subst (λ (z : ℕ). z < 2 ^ 277) (sym doubled) l)))

pub hypot_small : (a x y : Float) → T (fits binary32 a) → T (positive a) → T (le a (fin false 1 (pos 100)))
    → AtMost (num a) (den a) x → AtMost (num a) (den a) y → AtMost (num a * 2) (den a) (hypot_of x y)
hypot_small a nan y F P l h k = absurd h
hypot_small a (inf s) y F P l h k = absurd h
hypot_small a (fin s m e) nan F P l h k = absurd k
hypot_small a (fin s m e) (inf t) F P l h k = absurd k
hypot_small nan (fin s m e) (fin t r d) F P l h k = absurd P
hypot_small (inf i) (fin s m e) (fin t r d) F P l h k = absurd P
hypot_small (fin true n i) (fin s m e) (fin t r d) F P l h k = absurd P
hypot_small (fin false zero i) (fin s m e) (fin t r d) F P l h k = absurd P
hypot_small (fin false (suc n) i) (fin s m e) (fin t r d) F P l h k =
    let g : suc n * up i * 1 ≤ 1 * 2 ^ 100 * down i = le→cross (fin false (suc n) i) (fin false 1 (pos 100)) P tt l in
    twice_at_most n i F (hypot_of (fin s m e) (fin t r d)) (mag m e * mag m e + mag r d * mag r d) (hypot_nearest s m e t r d)
    (two_squares (mag m e) (mag r d) (U n i F) (side n i F m e h) (side n i F r d k))
    (fair n i F (le_trans (le_of_eq (sym (mul-one (suc n * up i)))) g))

-- no hypotenuse has a minus sign
pub hypot_unsigned : (x y : Float) → T (unsigned (hypot_of x y))
unfolding hypot_of
hypot_unsigned nan nan = tt
hypot_unsigned nan (inf t) = tt
hypot_unsigned nan (fin t n d) = tt
hypot_unsigned (inf s) y = tt
hypot_unsigned (fin s m e) nan = tt
hypot_unsigned (fin s m e) (inf t) = tt
hypot_unsigned (fin s m e) (fin t n d) = let v = hypot_nearest s m e t n d in subst (λ (r : Float). T (unsigned r)) (sym v.value) (unsigned_units binary32 v.q v.d)
