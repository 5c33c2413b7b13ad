-- Outlines that draw as many lines as an accepted call has stored are all that it draws. Assumes nothing.
use Prim.Native.Nat.{ℕ, zero, suc, ◌+◌, ◌*◌, ◌≤◌, ◌<◌}
use Rattle.std.specs.Prelude.{◌≡◌, ◌⊎◌, List, [], ◌∷◌, length}
use Rattle.std.proofs.Math.Path.{refl, ap}
use Rattle.std.proofs.Common.{◌∙◌, inl, inr, ⊎_elim, arith}
use Rattle.std.proofs.Math.Decide.{ℕ_discrete}
use Rattle.drawing.specs.Sheet.{Event}
use Rattle.watertight.specs.Fill.{Call, Accepted, tags, drawn_at, count_before}
use Rattle.watertight.specs.Accepted.{done}
use Rattle.own_lists.specs.Fills.{times}
use Rattle.own_lists.specs.Sums.{sum_to, sum_over, Below, by_times}

-- ---- terms that are no larger, and have the same sum, are the same
no_larger : (f g : ℕ → ℕ) (n : ℕ) → ((i : ℕ) → i < n → f i ≤ g i) → sum_to f n ≤ sum_to g n
unfolding sum_to
no_larger f g zero h = omega arith
no_larger f g (suc n) h = omega (arith, no_larger f g n (λ i l. h i (omega arith)), h n (omega arith))

the_same : (f g : ℕ → ℕ) (n : ℕ) → ((i : ℕ) → i < n → f i ≤ g i) → sum_to f n ≡ sum_to g n → (i : ℕ) → i < n → f i ≡ g i
unfolding sum_to
the_same f g zero h e i l = absurd (omega arith)
the_same f g (suc n) h e i l =
    let below : (j : ℕ) → j < n → f j ≤ g j = λ j m. h j (omega arith) in
    let front = no_larger f g n below in
    let last = h n (omega arith) in
    elim (ℕ_discrete i n) [
      | yes k ↦ rw k (omega arith)
      | no ne ↦ the_same f g n below (omega arith) i (omega (arith, ne))
    ]

at_most : (t v : ℕ) → t ≤ 1 → t * v ≤ v
at_most zero v h = omega arith
at_most (suc zero) v h = omega arith
at_most (suc (suc t)) v h = absurd (omega arith)

one_or_none : (t v : ℕ) → t ≤ 1 → t * v ≡ v → (v ≡ 0) ⊎ (t ≡ 1)
one_or_none zero v h e = inl (omega arith)
one_or_none (suc zero) v h e = inr refl
one_or_none (suc (suc t)) v h e = absurd (omega arith)

empty : (es : List Event) → length es ≡ 0 → es ≡ []
empty [] h = refl
empty (e ∷ es) h = absurd (omega arith)

module _ (c : Call) where
  abbrev lines_at : ℕ → ℕ
  lines_at i = length (drawn_at c i)

  in_all : (k : ℕ) → count_before c k ≡ sum_to lines_at k
  unfolding count_before sum_to
  in_all zero = refl
  in_all (suc k) = ap (λ (n : ℕ). n + lines_at k) (in_all k)

  pub nothing_more : (a : Accepted c) (js : List ℕ) → Below (tags c) js → ((i : ℕ) → times i js ≤ 1) → sum_over lines_at js ≡ a.count
      → (i : ℕ) → i < tags c → (drawn_at c i ≡ []) ⊎ (times i js ≡ 1)
  nothing_more a js b few e i l =
      let sums = by_times lines_at (tags c) js b ∙ e ∙ (done c a).counted ∙ in_all (tags c) in
      let same = the_same (λ j. times j js * lines_at j) lines_at (tags c) (λ j m. at_most (times j js) (lines_at j) (few j)) sums i l in
      ⊎_elim (λ z. inl (empty (drawn_at c i) z)) inr (one_or_none (times i js) (lines_at i) (few i) same)
