-- The rounded number is at most half away, and at exactly half away it is even. Assumes nothing.
use Rattle.std.specs.Prelude.{◌≡◌, refl, ◌⊎◌, not, ℤ, pos, negsuc, T, ltb, eqb, Float}
use Rattle.std.proofs.Common.{sym, subst, inl, inr, ⊎_elim, mod-lt, div-add-mod', le_antisymm, arith, T_not, leb→le, ltb→lt, nltb→le, eqb→eq, lit≤}
use Prim.Native.Nat.{ℕ, zero, suc, ◌+◌, ◌*◌, ◌/◌, ◌%◌, ◌≤◌, ◌<◌, compare, Ordering}
use Rattle.std.proofs.Math.Dec.{is_le, compare_is_eq, nleb→lt, eqb_refl}
use Rattle.std.specs.Float.{nan, inf, fin}
use Rattle.std.specs.Float.Ieee.{nearest}
use Rattle.std.specs.Float.Ieee.Nearest.{closest}
use Rattle.laws.specs.Same.{either}
use Rattle.hpgl.specs.Form.{Range, Within}
use Rattle.hpgl.specs.Rounding.{rounded_of, is_within, is_good}

within_says : (r : Range) (z : ℤ) → T (is_within r z) → Within r z
unfolding is_within Within
within_says r (pos n) h = leb→le n r.above h
within_says r (negsuc n) h = leb→le (suc n) r.below h

pub good_within : (r : Range) (x : Float) → T (is_good r x) → Within r (rounded_of x)
unfolding is_good
good_within r nan h = absurd h
good_within r (inf s) h = absurd h
good_within r (fin s m e) h = within_says r (rounded_of (fin s m e)) h

-- ---- nearest: twice the distance is at most the divisor, and where it is the divisor, the number is even
pub record Near (a b q : ℕ) : Type 0 where
  pub low : 2 * a ≤ 2 * (q * b) + b
  pub high : 2 * (q * b) ≤ 2 * a + b
  pub even_below : 2 * a ≡ 2 * (q * b) + b → q % 2 ≡ 0
  pub even_above : 2 * (q * b) ≡ 2 * a + b → q % 2 ≡ 0

near_lt : (a b q m : ℕ) → q * b + m ≡ a → m * 2 < b → Near a b q
near_lt a b q m e h = record {
  low = omega arith;
  high = omega arith;
  even_below = λ t. absurd (let z : ⊥ = omega arith in z);
  even_above = λ t. absurd (let z : ⊥ = omega arith in z);
}

near_gt : (a b q m : ℕ) → q * b + m ≡ a → m < b → b < m * 2 → Near a b (suc q)
near_gt a b q m e l h = record {
  low = omega arith;
  high = omega arith;
  even_below = λ t. absurd (let z : ⊥ = omega arith in z);
  even_above = λ t. absurd (let z : ⊥ = omega arith in z);
}

even_tie : (q : ℕ) → (q + q % 2) % 2 ≡ 0
even_tie q = omega arith

tie_zero : (a b q m p : ℕ) → q * b + m ≡ a → m * 2 ≡ b → p ≡ 0 → (2 * a ≤ 2 * ((q + p) * b) + b) × (2 * ((q + p) * b) ≤ 2 * a + b)
tie_zero a b q m p e h z = rw z (omega arith, omega arith)

tie_one : (a b q m p : ℕ) → q * b + m ≡ a → m * 2 ≡ b → p ≡ 1 → (2 * a ≤ 2 * ((q + p) * b) + b) × (2 * ((q + p) * b) ≤ 2 * a + b)
tie_one a b q m p e h z = rw z (omega arith, omega arith)

parity : (q : ℕ) → (q % 2 ≡ 0) ⊎ (q % 2 ≡ 1)
parity q = elim (either (eqb (q % 2) 0)) [
  | inl t ↦ inl (eqb→eq (q % 2) 0 t)
  | inr t ↦ inr (odd_one (q % 2) (mod-lt q (lit≤ tt)) (λ e. T_not (eqb (q % 2) 0) t (subst (λ (z : ℕ). T (eqb z 0)) (sym e) tt)))
]
  where
    odd_one : (p : ℕ) → p < 2 → (p ≡ 0 → ⊥) → p ≡ 1
    odd_one zero h f = absurd (f refl)
    odd_one (suc zero) h f = refl
    odd_one (suc (suc p)) h f = absurd (let z : ⊥ = omega arith in z)

near_eq : (a b q m : ℕ) → q * b + m ≡ a → m * 2 ≡ b → Near a b (q + q % 2)
near_eq a b q m e h =
    let w : (2 * a ≤ 2 * ((q + q % 2) * b) + b) × (2 * ((q + q % 2) * b) ≤ 2 * a + b) = ⊎_elim (tie_zero a b q m (q % 2) e h) (tie_one a b q m (q % 2) e h) (parity q) in
    record { low = w.0; high = w.1; even_below = λ t. even_tie q; even_above = λ t. even_tie q }

by_order : (a b q m : ℕ) → q * b + m ≡ a → m < b → (o : Ordering) → compare (m * 2) b ≡ o → Near a b (nearest q o)
by_order a b q m e l Ordering.lt h =
    near_lt a b q m e (smaller (m * 2) b (leb→le (m * 2) b (subst (λ (o : Ordering). T (is_le o)) (sym h) tt)) (λ t. T_not (eqb (m * 2) b) (subst (λ (o : Ordering). T (not (compare_is_eq o))) (sym h) tt) (subst (λ (z : ℕ). T (eqb (m * 2) z)) t (eqb_refl (m * 2)))))
  where
    smaller : (x y : ℕ) → x ≤ y → (x ≡ y → ⊥) → x < y
    smaller x y g f = elim (either (ltb x y)) [
      | inl t ↦ ltb→lt x y t
      | inr t ↦ absurd (f (le_antisymm g (nltb→le x y t)))
    ]
by_order a b q m e l Ordering.eq h = near_eq a b q m e (eqb→eq (m * 2) b (subst (λ (o : Ordering). T (compare_is_eq o)) (sym h) tt))
by_order a b q m e l Ordering.gt h = near_gt a b q m e l (nleb→lt (m * 2) b (subst (λ (o : Ordering). T (not (is_le o))) (sym h) tt))

pub nearest_near : (a b : ℕ) → 0 < b → Near a b (closest a b)
nearest_near a b h = by_order a b (a / b) (a % b) (div-add-mod' a b) (mod-lt a h) (compare (a % b * 2) b) refl
