-- A sum with something 2 ^ 27 times smaller is the larger one (`steady`). Assumes nothing.
use Rattle.std.specs.Prelude.{◌≡◌, refl, Bool, true, false, cond, ℤ, T, ltb, Float}
use Rattle.std.proofs.Common.{sym, ap, ◌∙◌, subst, le_trans, le_of_eq, le_of_suc-le-suc, lt_of_lt_of_le, lt_of_le_of_lt, lt_of_not-le, mul_comm, mul_assoc, mul_right_comm, mul-pos, mul-le-mul_right, lt_of_mul-lt-mul_right, mul-lt-mul_of_pos_right, div-mul-le_self, div-lt_iff_lt-mul, div-add-mod', zero-lt-suc, add-mul, arith, lt-ltb, pow_pos, pow-add, pow_mono}
use Prim.Native.Nat.{ℕ, zero, suc, ◌+◌, ◌-◌, ◌*◌, ◌/◌, ◌%◌, ◌^◌, ◌≤◌, ◌<◌, compare}
use Rattle.std.proofs.Math.Nat.{eq_of_mul-eq-mul_right}
use Rattle.std.proofs.Math.Decide.{dec_lt}
use Rattle.std.proofs.Math.Arith.{digits_div}
use Rattle.std.specs.Float.{fin, binary32}
use Rattle.std.specs.Float.Ieee.{up, down, size, nearest, round, sum, add, fits}
use Rattle.std.specs.Float.Ieee.Exact.{HasValue, units_val}
use Rattle.std.specs.Float.Ieee.Fits.{down_pos, up_pos, round_is, round-fits}
use Rattle.std.specs.Float.Ieee.Digits.{back, size-lt, size_reaches}
use Rattle.std.specs.Float.Ieee.Nearest.{closest}
use Rattle.laws.specs.Own.{Fitting, fits_says, shift, shift_is, value_unique}
use Rattle.roots.specs.Laws.{below, above}

-- ---- the nearest whole number of n / d is j, if n is less than half of d away from j * d
quot_of : (n d q r : ℕ) → r < d → n ≡ q * d + r → n / d ≡ q
quot_of n d q r h e = ap (λ (z : ℕ). z / d) e ∙ digits_div q h

rest_of : (n d q r : ℕ) → r < d → n ≡ q * d + r → n % d ≡ r
rest_of n d q r h e = same (n / d * d) (q * d) (n % d) r n (div-add-mod' n d) e (ap (λ (z : ℕ). z * d) (quot_of n d q r h e))
  where
    same : (a b x y n : ℕ) → a + x ≡ n → n ≡ b + y → a ≡ b → x ≡ y
    same a b x y n p q h = omega arith

over : (n d j : ℕ) → j * d ≤ n → (n - j * d) * 2 < d → closest n d ≡ j
over n d j h l =
    let e : n ≡ j * d + (n - j * d) = omega arith in
    let r : n - j * d < d = omega arith in
    ap (λ (q : ℕ). nearest q (compare (n % d * 2) d)) (quot_of n d j (n - j * d) r e)
    ∙ below j (n % d * 2) d (subst (λ (z : ℕ). z * 2 < d) (sym (rest_of n d j (n - j * d) r e)) l)

under : (n d j : ℕ) → n < suc j * d → (suc j * d - n) * 2 < d → closest n d ≡ suc j
under n d j h l =
    let g = suc j * d - n in
    let e : n ≡ j * d + (d - g) = split n d (j * d) (suc j * d) (step j d) h l in
    let r : d - g < d = some n d (suc j * d) h l in
    ap (λ (q : ℕ). nearest q (compare (n % d * 2) d)) (quot_of n d j (d - g) r e)
    ∙ above j (n % d * 2) d (subst (λ (z : ℕ). d < z * 2) (sym (rest_of n d j (d - g) r e)) (more n d (suc j * d) h l))
  where
    step : (j d : ℕ) → suc j * d ≡ j * d + d
    step j d = omega arith

    split : (n d a b : ℕ) → b ≡ a + d → n < b → (b - n) * 2 < d → n ≡ a + (d - (b - n))
    split n d a b e h l = omega arith

    some : (n d b : ℕ) → n < b → (b - n) * 2 < d → d - (b - n) < d
    some n d b h l = omega arith

    more : (n d b : ℕ) → n < b → (b - n) * 2 < d → d < (d - (b - n)) * 2
    more n d b h l = omega arith

-- ---- a fraction n / C units so near to T = M * 2 ^ i units, of a format's number, is rounded to T
far : (M X n : ℕ) → M < 16777216 → 0 < X → 16777216 * X ≤ n → n * 134217728 ≤ M * X * 134217729 → ⊥
far M X n h x l a = let b : M * X ≤ 16777215 * X = mul-le-mul_right X (le_of_suc-le-suc h) in omega arith

bounded : (J D n : ℕ) → 0 < D → n < 16777216 * D → J * D * 134217728 ≤ n * 134217728 + J * D → J ≤ 16777216
bounded J D n d h l = le_of_suc-le-suc (lt_of_not-le (λ (g : 16777217 ≤ J). wide (J * D) D n d h l (mul-le-mul_right D g)))
  where
    wide : (Y D n : ℕ) → 0 < D → n < 16777216 * D → Y * 134217728 ≤ n * 134217728 + Y → 16777217 * D ≤ Y → ⊥
    wide Y D n d h l g = omega arith

module _ (M i C n : ℕ) (P : 0 < C) (short : M < 16777216) (high : n * 134217728 ≤ M * 2 ^ i * C * 134217729) (low : M * 2 ^ i * C * 134217728 ≤ n * 134217728 + M * 2 ^ i * C) where
  abbrev k : ℕ
  k = size (n / C) - 24

  abbrev D : ℕ
  D = C * 2 ^ k

  D_pos : 0 < D
  D_pos = mul-pos P (pow_pos k)

  early : i < k → ⊥
  early h =
      let g : 23 + k < size (n / C) = omega arith in
      let l : 2 ^ (24 + i) ≤ n / C = le_trans (pow_mono (let s : 24 + i ≤ 23 + k = omega arith in s)) (size_reaches (n / C) (23 + k) g) in
      far M (2 ^ i * C) n short (mul-pos (pow_pos i) P)
      (le_trans (le_of_eq (sym (mul_assoc 16777216 (2 ^ i) C) ∙ ap (λ (z : ℕ). z * C) (sym (pow-add 2 24 i)))) (le_trans (mul-le-mul_right C l) (div-mul-le_self n C)))
      (subst (λ (z : ℕ). n * 134217728 ≤ z * 134217729) (mul_assoc M (2 ^ i) C) high)

  module _ (late : k ≤ i) where
    abbrev J : ℕ
    J = M * 2 ^ (i - k)

    units_are : M * 2 ^ i ≡ J * 2 ^ k
    units_are = ap (λ (z : ℕ). M * 2 ^ z) (sym (back i k late)) ∙ ap (λ (z : ℕ). M * z) (pow-add 2 (i - k) k) ∙ sym (mul_assoc M (2 ^ (i - k)) (2 ^ k))

    whole : M * 2 ^ i * C ≡ J * D
    whole = ap (λ (z : ℕ). z * C) units_are ∙ mul_assoc J (2 ^ k) C ∙ ap (λ (z : ℕ). J * z) (mul_comm (2 ^ k) C)

    high_D : n * 134217728 ≤ J * D * 134217729
    high_D = subst (λ (z : ℕ). n * 134217728 ≤ z * 134217729) whole high

    low_D : J * D * 134217728 ≤ n * 134217728 + J * D
    low_D = subst (λ (z : ℕ). z * 134217728 ≤ n * 134217728 + z) whole low

    few : J ≤ 16777216
    few =
        let s : size (n / C) ≤ 24 + k = omega arith in
        let g : n < 2 ^ (24 + k) * C = (div-lt_iff_lt-mul P).0 (lt_of_lt_of_le (size-lt (n / C)) (pow_mono s)) in
        bounded J D n D_pos (lt_of_lt_of_le g (le_of_eq (ap (λ (z : ℕ). z * C) (pow-add 2 24 k) ∙ mul_assoc 16777216 (2 ^ k) C ∙ ap (λ (z : ℕ). 16777216 * z) (mul_comm (2 ^ k) C)))) low_D

    over_half : (Y D n : ℕ) → Y ≤ 16777216 * D → 0 < D → n * 134217728 ≤ Y * 134217729 → (n - Y) * 2 < D
    over_half Y D n h d l = omega arith

    under_half : (Y D n : ℕ) → Y ≤ 16777216 * D → 0 < D → Y * 134217728 ≤ n * 134217728 + Y → (Y - n) * 2 < D
    under_half Y D n h d l = omega arith

    from_below : (j : ℕ) → J ≡ j → n < j * D → closest n D ≡ j
    from_below zero e h = absurd (nothing n (0 * D) (le_of_eq (zero_left D)) h)
      where
        zero_left : (d : ℕ) → 0 * d ≡ 0
        zero_left d = omega arith

        nothing : (n z : ℕ) → z ≤ 0 → n < z → ⊥
        nothing n z a b = omega arith
    from_below (suc j) e h = under n D j h (subst (λ (z : ℕ). (z * D - n) * 2 < D) e (under_half (J * D) D n (mul-le-mul_right D few) D_pos low_D))

    is_closest : closest n D ≡ J
    is_closest = elim (dec_lt n (J * D)) [
      | yes h ↦ from_below J refl h
      | no g ↦ over n D J (le_of_suc-le-suc (lt_of_not-le g)) (over_half (J * D) D n (mul-le-mul_right D few) D_pos high_D)
    ]

  settled : closest n D * 2 ^ k ≡ M * 2 ^ i
  settled = elim (dec_lt i k) [
    | yes h ↦ absurd (early h)
    | no g ↦ let l = le_of_suc-le-suc (lt_of_not-le g) in ap (λ (z : ℕ). z * 2 ^ k) (is_closest l) ∙ sym (units_are l)
  ]

-- ---- the same of fractions: N / C is rounded to a float of the value A / C
scaled_high : (N A L : ℕ) → N * 134217728 ≤ A * 134217729 → N * L * 134217728 ≤ A * L * 134217729
scaled_high N A L h = le_trans (le_of_eq (mul_right_comm N L 134217728)) (le_trans (mul-le-mul_right L h) (le_of_eq (mul_right_comm A 134217729 L)))

scaled_low : (N A L : ℕ) → A * 134217728 ≤ N * 134217728 + A → A * L * 134217728 ≤ N * L * 134217728 + A * L
scaled_low N A L h =
    le_trans (le_of_eq (mul_right_comm A L 134217728))
    (le_trans (mul-le-mul_right L h) (le_of_eq (add-mul (N * 134217728) A L ∙ ap (λ (z : ℕ). z + A * L) (mul_right_comm N 134217728 L))))

module _ (m : ℕ) (e : ℤ) (F : T (fits binary32 (fin false (suc m) e))) (N A C : ℕ) (P : 0 < C) (value : A * down e ≡ suc m * up e * C) (high : N * 134217728 ≤ A * 134217729) (low : A * 134217728 ≤ N * 134217728 + A) where
  says : Fitting binary32 (suc m) e
  says = fits_says binary32 false m e F

  its_units : suc m * up e * 2 ^ 149 ≡ suc m * 2 ^ shift binary32 e * down e
  its_units = shift_is binary32 (suc m) e says.fine

  in_units : A * 2 ^ 149 ≡ suc m * 2 ^ shift binary32 e * C
  in_units =
      eq_of_mul-eq-mul_right (down e) (down_pos e) (A * 2 ^ 149) (suc m * 2 ^ shift binary32 e * C)
      (mul_right_comm A (2 ^ 149) (down e) ∙ ap (λ (z : ℕ). z * 2 ^ 149) value ∙ mul_right_comm (suc m * up e) C (2 ^ 149) ∙ ap (λ (z : ℕ). z * C) its_units ∙ mul_right_comm (suc m * 2 ^ shift binary32 e) (down e) C)

  abbrev kept : ℕ
  kept = size (N * 2 ^ 149 / C) - 24

  is_settled : closest (N * 2 ^ 149) (C * 2 ^ kept) * 2 ^ kept ≡ suc m * 2 ^ shift binary32 e
  is_settled =
      settled (suc m) (shift binary32 e) C (N * 2 ^ 149) P says.small
      (subst (λ (z : ℕ). N * 2 ^ 149 * 134217728 ≤ z * 134217729) in_units (scaled_high N A (2 ^ 149) high))
      (subst (λ (z : ℕ). z * 134217728 ≤ N * 2 ^ 149 * 134217728 + z) in_units (scaled_low N A (2 ^ 149) low))

  not_large : suc m * 2 ^ shift binary32 e < 2 ^ 277
  not_large =
      lt_of_mul-lt-mul_right (down e)
      (lt_of_le_of_lt (le_of_eq (sym its_units)) (lt_of_lt_of_le (mul-lt-mul_of_pos_right says.under (pow_pos 149)) (le_of_eq (mul_right_comm (2 ^ 128) (down e) (2 ^ 149)))))

  round_near : round binary32 false N C ≡ fin false (suc m) e
  round_near =
      value_unique binary32 (round binary32 false N C) (fin false (suc m) e) false (suc m * 2 ^ shift binary32 e) (2 ^ 149) (pow_pos 149) (round-fits binary32 false N C) F
      (subst (λ (z : ℕ). HasValue (round binary32 false N C) false z (2 ^ 149)) is_settled
      (subst (λ (v : Float). HasValue v false (closest (N * 2 ^ 149) (C * 2 ^ kept) * 2 ^ kept) (2 ^ 149)) (sym (round_is binary32 false N C))
      (units_val binary32 false (closest (N * 2 ^ 149) (C * 2 ^ kept)) kept (subst (λ (z : ℕ). z < 2 ^ 277) (sym is_settled) not_large))))
      (refl, its_units)

-- ---- the sum
below_it : (A B : ℕ) → 0 < A → B * 134217728 ≤ A → B < A
below_it A B h l = omega arith

plus_high : (A B : ℕ) → B * 134217728 ≤ A → (B + A) * 134217728 ≤ A * 134217729
plus_high A B l = omega arith

plus_low : (A B : ℕ) → A * 134217728 ≤ (B + A) * 134217728 + A
plus_low A B = omega arith

minus_high : (A B : ℕ) → (A - B) * 134217728 ≤ A * 134217729
minus_high A B = omega arith

minus_low : (A B : ℕ) → B * 134217728 ≤ A → A * 134217728 ≤ (A - B) * 134217728 + A
minus_low A B l = omega arith

sum_is : (s : Bool) (A B C : ℕ) → B < A → sum binary32 s B false A C ≡ round binary32 false (cond s (A - B) (B + A)) C
unfolding sum
sum_is true A B C h = ap (λ (t : Bool). cond t (round binary32 false (A - B) C) (round binary32 (ltb A B) (B - A) C)) (lt-ltb B A h)
sum_is false A B C h = refl

pub steady : (s : Bool) (n : ℕ) (d : ℤ) (m : ℕ) (e : ℤ) → T (fits binary32 (fin false (suc m) e)) → n * up d * down e * 134217728 ≤ suc m * up e * down d → add binary32 (fin s n d) (fin false (suc m) e) ≡ fin false (suc m) e
unfolding add
steady s n d m e F h = sum_is s A B C (below_it A B (mul-pos (mul-pos (zero-lt-suc m) (up_pos e)) (down_pos d)) h) ∙ go s
  where
    A : ℕ
    A = suc m * up e * down d

    B : ℕ
    B = n * up d * down e

    C : ℕ
    C = down d * down e

    go : (s : Bool) → round binary32 false (cond s (A - B) (B + A)) C ≡ fin false (suc m) e
    go true = round_near m e F (A - B) A C (mul-pos (down_pos d) (down_pos e)) (mul_assoc (suc m * up e) (down d) (down e)) (minus_high A B) (minus_low A B h)
    go false = round_near m e F (B + A) A C (mul-pos (down_pos d) (down_pos e)) (mul_assoc (suc m * up e) (down d) (down e)) (plus_high A B h) (plus_low A B)
