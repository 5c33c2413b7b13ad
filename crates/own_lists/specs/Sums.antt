-- A sum over the first n numbers is the sum over a list that has each of them once, but for those that add nothing. Assumes nothing.
use Prim.Native.Nat.{ℕ, zero, suc, ◌+◌, ◌*◌, ◌≤◌, ◌<◌}
use Rattle.std.specs.Prelude.{◌≡◌, ◌⊎◌, eqb}
use Rattle.std.proofs.Math.Path.{refl, ap}
use Rattle.std.proofs.Common.{sym, ◌∙◌, subst, inl, inr, arith, eq-eqb, ne_eqb}
use mathlib.Core.List.{List, [], ◌∷◌}
use Rattle.std.proofs.Math.Decide.{ℕ_discrete}
use Rattle.records.specs.Record.{once}
use Rattle.own_lists.specs.Fills.{times}

unfoldable pub sum_to : (ℕ → ℕ) → ℕ → ℕ
sum_to g zero = 0
sum_to g (suc n) = sum_to g n + g n

unfoldable pub sum_over : (ℕ → ℕ) → List ℕ → ℕ
sum_over g [] = 0
sum_over g (j ∷ js) = g j + sum_over g js

unfoldable pub Below : ℕ → List ℕ → Type 0
Below n [] = Unit {0}
Below n (j ∷ js) = (j < n) × Below n js

same_sums : (f g : ℕ → ℕ) (n : ℕ) → ((i : ℕ) → i < n → f i ≡ g i) → sum_to f n ≡ sum_to g n
unfolding sum_to
same_sums f g zero h = refl
same_sums f g (suc n) h = omega (arith, same_sums f g n (λ i l. h i (omega arith)), h n (omega arith))

module _ (g : ℕ → ℕ) where
  -- one more of j among those that are counted
  abbrev with : ℕ → (ℕ → ℕ) → ℕ → ℕ
  with j h i = (once (eqb j i) + h i) * g i

  other : (j i : ℕ) (h : ℕ → ℕ) → (j ≡ i → ⊥) → with j h i ≡ h i * g i
  unfolding once
  other j i h n = rw (ne_eqb j i n) (omega arith)

  same : (j : ℕ) (h : ℕ → ℕ) → with j h j ≡ g j + h j * g j
  unfolding once
  same j h = rw (eq-eqb j j refl) (omega arith)

  past : (j : ℕ) (h : ℕ → ℕ) (n : ℕ) → n ≤ j → sum_to (with j h) n ≡ sum_to (λ i. h i * g i) n
  past j h n l = same_sums (with j h) (λ i. h i * g i) n (λ i m. other j i h (λ e. omega arith))

  one_more_lem : (j : ℕ) (h : ℕ → ℕ) (n : ℕ) → j < n → sum_to (with j h) n ≡ g j + sum_to (λ i. h i * g i) n
  unfolding sum_to
  one_more_lem j h zero l = absurd (omega arith)
  one_more_lem j h (suc n) l =
      elim (ℕ_discrete j n) [
        | yes e ↦ subst (λ (k : ℕ). sum_to (with k h) (suc n) ≡ g k + sum_to (λ i. h i * g i) (suc n)) (sym e) (omega (arith, past n h n (omega arith), same n h))
        | no ne ↦ omega (arith, one_more_lem j h n (omega (arith, ne)), other j n h ne)
      ]

  none : (n : ℕ) → sum_to (λ i. 0 * g i) n ≡ 0
  unfolding sum_to
  none zero = refl
  none (suc n) = omega (arith, none n)

  pub by_times : (n : ℕ) (js : List ℕ) → Below n js → sum_to (λ i. times i js * g i) n ≡ sum_over g js
  unfolding Below times sum_over
  by_times n [] h = none n
  by_times n (j ∷ js) h = one_more_lem j (λ i. times i js) n h.0 ∙ ap (λ (s : ℕ). g j + s) (by_times n js h.1)

  pub once_each : (n : ℕ) (js : List ℕ) → Below n js → ((i : ℕ) → i < n → (g i ≡ 0) ⊎ (times i js ≡ 1)) → sum_to g n ≡ sum_over g js
  once_each n js b h = same_sums g (λ i. times i js * g i) n (λ i l. weighs (times i js) (g i) (h i l)) ∙ by_times n js b
    where
      weighs : (t v : ℕ) → (v ≡ 0) ⊎ (t ≡ 1) → v ≡ t * v
      weighs t v (inl e) = rw e (omega arith)
      weighs t v (inr e) = rw e (omega arith)
