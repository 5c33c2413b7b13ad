-- How large a binary32 number is at most: what is compared, rounded, multiplied and added. Assumes nothing.
use Rattle.std.specs.Prelude.{◌≡◌, Bool, true, false, not, ◌&&◌, ◌||◌, cond, ℤ, T, ltb, eqb, Float}
use Rattle.std.proofs.Common.{sym, ap, ◌∙◌, subst, inl, inr, le_trans, le_of_eq, le_refl, le_of_lt, lt_of_le_of_lt, mul_left_comm, add-le-add, zero-mul, mul_assoc, mul_comm, mul_right_comm, mul-pos, mul-le-mul, mul-le-mul_right, le_of_mul-le-mul_right, add-mul, div-mul-le_self, div-add-mod', eq-zero-or-pos, arith, eqb→eq, ltb→lt, lit<, pow_pos}
use Rattle.std.specs.Bool.{beq}
use Prim.Native.Nat.{ℕ, zero, suc, ◌+◌, ◌-◌, ◌*◌, ◌/◌, ◌%◌, ◌^◌, ◌≤◌, ◌<◌, zero-le, compare, Ordering}
use Rattle.std.proofs.Math.Nat.{mul-mul-mul_comm}
use Rattle.std.proofs.Math.Dec.{nleb→lt, is_le}
use Rattle.std.specs.Float.{nan, inf, fin, binary32}
use Rattle.std.specs.Float.Ieee.{up, down, size, nearest, units, round, sum, neg, add, mul, le}
use Rattle.std.specs.Float.Ieee.Exact.{HasValue, units_val}
use Rattle.std.specs.Float.Ieee.Fits.{down_pos, and_l, nearest-le, round_is}
use Rattle.std.specs.Float.Ieee.Nearest.{closest}
use Rattle.std.specs.Float.Ieee.Order.{round_mono}
use Rattle.laws.specs.Binary32.{◌⊕◌, ◌⊗◌}
use Rattle.laws.specs.Compare.{under_zero}
use Rattle.laws.specs.Neg.{round_neg}
use Rattle.laws.specs.NotFinite.{unsigned, unsigned_round}
use Rattle.laws.specs.Own.{or_split}

-- x is a finite number, and its size is at most n / d
abbrev pub AtMost : ℕ → ℕ → Float → Type 0
AtMost n d nan = ⊥
AtMost n d (inf s) = ⊥
AtMost n d (fin s m e) = m * up e * d ≤ n * down e

pub of_value : (v : Float) (s : Bool) (a n c : ℕ) → HasValue v s a c → a ≤ n → AtMost n c v
of_value nan s a n c h l = absurd h
of_value (inf t) s a n c h l = absurd h
of_value (fin t m e) s a n c h l = le_trans (le_of_eq h.1) (mul-le-mul_right (down e) l)

-- a larger fraction
pub widened : (x : Float) (n d n' d' : ℕ) → 0 < d → n * d' ≤ n' * d → AtMost n d x → AtMost n' d' x
widened nan n d n' d' D h l = l
widened (inf s) n d n' d' D h l = l
widened (fin s m e) n d n' d' D h l =
    le_of_mul-le-mul_right
    (le_trans (le_of_eq (mul_right_comm (m * up e) d' d))
    (le_trans (mul-le-mul_right d' l)
    (le_trans (le_of_eq (mul_right_comm n (down e) d'))
    (le_trans (mul-le-mul_right (down e) h) (le_of_eq (mul_right_comm n' d (down e)))))))
    D

-- ---- what is compared
pub lt_or_eq : (a b : ℕ) → T (ltb a b || (eqb a b && true)) → a ≤ b
lt_or_eq a b t = elim (or_split (ltb a b) (eqb a b && true) t) [ inl u ↦ le_of_lt (ltb→lt a b u) | inr u ↦ le_of_eq (eqb→eq a b (and_l (eqb a b) true u)) ]

no_size : (a d n : ℕ) → 0 * a * d ≤ n
no_size a d n = le_trans (le_of_eq (ap (λ (z : ℕ). z * d) (zero-mul a) ∙ zero-mul d)) zero-le

pub zero_at_most : (s : Bool) (e : ℤ) (n d : ℕ) → AtMost n d (fin s zero e)
zero_at_most s e n d = no_size (up e) d (n * down e)

pub le_at_most : (x : Float) (p : ℕ) (k : ℤ) → T (not (under_zero x)) → T (le x (fin false p k)) → AtMost (p * up k) (down k) x
unfolding le
le_at_most nan p k u h = absurd h
le_at_most (inf true) p k u h = absurd u
le_at_most (inf false) p k u h = absurd h
le_at_most (fin true zero e) p k u h = no_size (up e) (down k) (p * up k * down e)
le_at_most (fin true (suc m) e) p k u h = absurd u
le_at_most (fin false m e) p k u h = lt_or_eq (m * up e * down k) (p * up k * down e) h

-- ---- what is rounded: at most what a larger fraction is rounded to, and at most twice the fraction
pub of_unsigned : (v : Float) → T (unsigned v) → T (not (under_zero v))
of_unsigned nan u = tt
of_unsigned (inf s) u = u
of_unsigned (fin s zero e) u = tt
of_unsigned (fin s (suc m) e) u = u

pub neg_at_most : (v : Float) (n d : ℕ) → AtMost n d v → AtMost n d (neg v)
unfolding neg
neg_at_most nan n d h = h
neg_at_most (inf s) n d h = h
neg_at_most (fin s m e) n d h = h

either_sign : (s : Bool) (a c n d : ℕ) → AtMost n d (round binary32 false a c) → AtMost n d (round binary32 s a c)
either_sign false a c n d h = h
either_sign true a c n d h = subst (λ (v : Float). AtMost n d v) (sym (round_neg binary32 false a c)) (neg_at_most (round binary32 false a c) n d h)

pub round_at_most : (s : Bool) (a c b d p : ℕ) (k : ℤ) → 0 < c → 0 < d → a * d ≤ b * c → round binary32 false b d ≡ fin false p k → AtMost (p * up k) (down k) (round binary32 s a c)
round_at_most s a c b d p k C D h e =
    either_sign s a c (p * up k) (down k)
    (le_at_most (round binary32 false a c) p k (of_unsigned (round binary32 false a c) (unsigned_round binary32 a c))
    (subst (λ (v : Float). T (le (round binary32 false a c) v)) e (round_mono binary32 a c b d C D h)))

none_whole : (n d w r : ℕ) → w ≡ 0 → w * d + r ≡ n → (o : Ordering) → (T (not (is_le o)) → d < r * 2) → nearest w o * d ≤ n * 2
none_whole n d w r z e Ordering.lt g = omega arith
none_whole n d w r z e Ordering.eq g = le_trans (le_of_eq (ap (λ (q : ℕ). (q + q % 2) * d) z ∙ zero-mul d)) zero-le
none_whole n d w r z e Ordering.gt g = let h = g tt in let k : suc w * d ≡ w * d + d = omega arith in omega arith

twice_whole : (w : ℕ) → 0 < w → suc w ≤ w * 2
twice_whole w h = omega arith

closest_twice : (n d : ℕ) → closest n d * d ≤ n * 2
closest_twice n d = elim (eq-zero-or-pos (n / d)) [
  | inl z ↦ none_whole n d (n / d) (n % d) z (div-add-mod' n d) (compare (n % d * 2) d) (nleb→lt (n % d * 2) d)
  | inr p ↦ le_trans (mul-le-mul_right d (le_trans (nearest-le (n / d) (compare (n % d * 2) d)) (twice_whole (n / d) p))) (le_trans (le_of_eq (mul_right_comm (n / d) 2 d)) (mul-le-mul_right 2 (div-mul-le_self n d)))
]

module _ (X Y : ℕ) (P : 0 < Y) where
  abbrev kept : ℕ
  kept = size (X * 2 ^ 149 / Y) - 24

  abbrev rounded : ℕ
  rounded = closest (X * 2 ^ 149) (Y * 2 ^ kept)

  at_most_twice : rounded * 2 ^ kept * Y ≤ X * 2 * 2 ^ 149
  at_most_twice =
      le_trans (le_of_eq (mul_assoc rounded (2 ^ kept) Y ∙ ap (λ (z : ℕ). rounded * z) (mul_comm (2 ^ kept) Y)))
      (le_trans (closest_twice (X * 2 ^ 149) (Y * 2 ^ kept)) (le_of_eq (mul_right_comm X (2 ^ 149) 2)))

  not_large : X ≤ Y → rounded * 2 ^ kept < 2 ^ 277
  not_large h =
      lt_of_le_of_lt
      (le_of_mul-le-mul_right (le_trans at_most_twice (le_trans (le_of_eq (mul_assoc X 2 (2 ^ 149))) (le_trans (mul-le-mul_right (2 * 2 ^ 149) h) (le_of_eq (mul_comm Y (2 * 2 ^ 149)))))) P)
      (lit< {m = 2 * 2 ^ 149} {n = 2 ^ 277} tt)

  pub round_twice : (s : Bool) → X ≤ Y → AtMost (X * 2) Y (round binary32 s X Y)
  round_twice s h =
      either_sign s X Y (X * 2) Y
      (subst (λ (v : Float). AtMost (X * 2) Y v) (sym (round_is binary32 false X Y))
      (widened (units binary32 false rounded kept) (rounded * 2 ^ kept) (2 ^ 149) (X * 2) Y (pow_pos 149) at_most_twice
      (of_value (units binary32 false rounded kept) false (rounded * 2 ^ kept) (rounded * 2 ^ kept) (2 ^ 149) (units_val binary32 false rounded kept (not_large h)) (le_refl (rounded * 2 ^ kept)))))

-- ---- a product and a sum
product_cross : (m n a b c d i j : ℕ) → m * b ≤ a * i → n * d ≤ c * j → m * n * (b * d) ≤ a * c * (i * j)
product_cross m n a b c d i j h l = le_trans (le_of_eq (mul-mul-mul_comm m n b d)) (le_trans (mul-le-mul h l) (le_of_eq (mul-mul-mul_comm a i c j)))

pub mul_at_most : (x y : Float) (a b c d p : ℕ) (k : ℤ) → 0 < b → 0 < d → AtMost a b x → AtMost c d y → round binary32 false (a * c) (b * d) ≡ fin false p k → AtMost (p * up k) (down k) (x ⊗ y)
unfolding mul
mul_at_most nan y a b c d p k B D h l e = absurd h
mul_at_most (inf s) y a b c d p k B D h l e = absurd h
mul_at_most (fin s m i) nan a b c d p k B D h l e = absurd l
mul_at_most (fin s m i) (inf t) a b c d p k B D h l e = absurd l
mul_at_most (fin s m i) (fin t n j) a b c d p k B D h l e =
    round_at_most _ (m * up i * (n * up j)) (down i * down j) (a * c) (b * d) p k (mul-pos (down_pos i) (down_pos j)) (mul-pos B D)
    (product_cross (m * up i) (n * up j) a b c d (down i) (down j) h l) e

-- at most twice the product, which is at most 1
pub mul_twice : (x y : Float) (a b c d : ℕ) → 0 < b → 0 < d → a * c ≤ b * d → AtMost a b x → AtMost c d y → AtMost (a * c * 2) (b * d) (x ⊗ y)
unfolding mul
mul_twice nan y a b c d B D g h l = absurd h
mul_twice (inf s) y a b c d B D g h l = absurd h
mul_twice (fin s m i) nan a b c d B D g h l = absurd l
mul_twice (fin s m i) (inf t) a b c d B D g h l = absurd l
mul_twice (fin s m i) (fin t n j) a b c d B D g h l =
    let X = m * up i * (n * up j) in
    let Y = down i * down j in
    let q = product_cross (m * up i) (n * up j) a b c d (down i) (down j) h l in
    let P = mul-pos (down_pos i) (down_pos j) in
    widened (round binary32 _ X Y) (X * 2) Y (a * c * 2) (b * d) P
    (le_trans (le_of_eq (mul_right_comm X 2 (b * d))) (le_trans (mul-le-mul_right 2 q) (le_of_eq (mul_right_comm (a * c) Y 2))))
    (round_twice X Y P _ (le_of_mul-le-mul_right (le_trans q (le_trans (mul-le-mul_right Y g) (le_of_eq (mul_comm (b * d) Y)))) (mul-pos B D)))

less : (a b : ℕ) → a - b ≤ a + b
less a b = omega arith

less_other : (a b : ℕ) → b - a ≤ a + b
less_other a b = omega arith

sum_at_most : (s t : Bool) (A B C n d p : ℕ) (k : ℤ) → 0 < C → 0 < d → (A + B) * d ≤ n * C → round binary32 false n d ≡ fin false p k → AtMost (p * up k) (down k) (sum binary32 s A t B C)
unfolding sum
sum_at_most s t A B C n d p k P D h e = go (beq s t) (ltb A B)
  where
    part : (u : Bool) (X : ℕ) → X ≤ A + B → AtMost (p * up k) (down k) (round binary32 u X C)
    part u X l = round_at_most u X C n d p k P D (le_trans (mul-le-mul_right d l) h) e

    go : (x y : Bool) → AtMost (p * up k) (down k) (cond x (round binary32 s (A + B) C) (cond y (round binary32 t (B - A) C) (round binary32 (s && ltb B A) (A - B) C)))
    go true y = part s (A + B) (le_refl (A + B))
    go false true = part t (B - A) (less_other A B)
    go false false = part (s && ltb B A) (A - B) (less A B)

sum_cross : (m n a b c d i j : ℕ) → m * b ≤ a * i → n * d ≤ c * j → (m * j + n * i) * (b * d) ≤ (a * d + c * b) * (i * j)
sum_cross m n a b c d i j h l =
    le_trans (le_of_eq (add-mul (m * j) (n * i) (b * d)))
    (le_trans (add-le-add
    (le_trans (le_of_eq (mul-mul-mul_comm m j b d)) (le_trans (mul-le-mul_right (j * d) h) (le_of_eq (simp (mul_assoc, mul_comm, mul_left_comm)))))
    (le_trans (le_of_eq (simp (mul_assoc, mul_comm, mul_left_comm))) (le_trans (mul-le-mul_right (i * b) l) (le_of_eq (simp (mul_assoc, mul_comm, mul_left_comm))))))
    (le_of_eq (sym (add-mul (a * d) (c * b) (i * j)))))

pub add_at_most : (x y : Float) (a b c d p : ℕ) (k : ℤ) → 0 < b → 0 < d → AtMost a b x → AtMost c d y → round binary32 false (a * d + c * b) (b * d) ≡ fin false p k → AtMost (p * up k) (down k) (x ⊕ y)
unfolding add
add_at_most nan y a b c d p k B D h l e = absurd h
add_at_most (inf s) y a b c d p k B D h l e = absurd h
add_at_most (fin s m i) nan a b c d p k B D h l e = absurd l
add_at_most (fin s m i) (inf t) a b c d p k B D h l e = absurd l
add_at_most (fin s m i) (fin t n j) a b c d p k B D h l e =
    sum_at_most s t (m * up i * down j) (n * up j * down i) (down i * down j) (a * d + c * b) (b * d) p k (mul-pos (down_pos i) (down_pos j)) (mul-pos B D)
    (sum_cross (m * up i) (n * up j) a b c d (down i) (down j) h l) e
