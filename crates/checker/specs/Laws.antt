-- That the two points of every record balance says the same as that all points of all paths do. Assumes nothing.
use Rattle.std.specs.Prelude.{ℕ, zero, suc, ◌+◌, ◌<◌, ◌≡◌, refl, ◌⊎◌, ◌↔◌, Bool, true, false, not, ◌&&◌, List, eqb}
use Rattle.std.proofs.Common.{sym, ◌∙◌, inl, inr, ⊎_elim, arith, eqb-true, eq-eqb}
use Rattle.records.specs.Record.{count, word, key, once, is_point, tally_of, starts, ends}
use Rattle.checker.specs.Verdict.{Balanced, even_point, key_at, uneven_at}

-- a record among the first n with the point at the place `at`
pub record Found (at : ℕ) (ws : List ℕ) (p x y n : ℕ) : Type 0 where
  pub k : ℕ
  pub within : k < n
  pub path : word ws k 0 ≡ p
  pub first : key (word ws k at) ≡ x
  pub second : key (word ws k (at + 1)) ≡ y

later : {at : ℕ} {ws : List ℕ} {p x y n : ℕ} → Found at ws p x y n → Found at ws p x y (suc n)
later f = record { k = f.k; within = omega arith; path = f.path; first = f.first; second = f.second }

point_words_lem : (p a b q x y : ℕ) → is_point q x y p a b ≡ true → (p ≡ q) × (key a ≡ x) × (key b ≡ y)
unfolding is_point
point_words_lem p a b q x y h = cases (eqb p q) (eqb (key a) x) (eqb (key b) y) refl refl refl h
  where
    cases : (u v w : Bool) → eqb p q ≡ u → eqb (key a) x ≡ v → eqb (key b) y ≡ w → (u && (v && w)) ≡ true → (p ≡ q) × (key a ≡ x) × (key b ≡ y)
    cases true true true e f g t = (eqb-true _ _ e, eqb-true _ _ f, eqb-true _ _ g)
    cases true true false e f g t = let z : ◌≡◌ {A = ℕ} 0 1 = cc in absurd (omega arith)
    cases true false w e f g t = let z : ◌≡◌ {A = ℕ} 0 1 = cc in absurd (omega arith)
    cases false v w e f g t = let z : ◌≡◌ {A = ℕ} 0 1 = cc in absurd (omega arith)

one_more_lem : (at : ℕ) (ws : List ℕ) (p x y n t : ℕ) (b : Bool) → is_point p x y (word ws n 0) (word ws n at) (word ws n (at + 1)) ≡ b → (t ≡ 0) ⊎ Found at ws p x y n → (t + once b ≡ 0) ⊎ Found at ws p x y (suc n)
unfolding once
one_more_lem at ws p x y n t true e f =
    let w = point_words_lem _ _ _ _ _ _ e in
    inr (record { k = n; within = omega arith; path = w.0; first = w.1; second = w.2 })
one_more_lem at ws p x y n t false e (inl z) = inl (omega arith)
one_more_lem at ws p x y n t false e (inr f) = inr (later f)

-- a point that is counted stands in a record
pub counted : (at : ℕ) (ws : List ℕ) (p x y n : ℕ) → (tally_of (is_point p x y) at ws n ≡ 0) ⊎ Found at ws p x y n
unfolding tally_of
counted at ws p x y zero = inl refl
counted at ws p x y (suc n) = one_more_lem at ws p x y n (tally_of (is_point p x y) at ws n) _ refl (counted at ws p x y n)

-- the two points of every record balance: what an algorithm looks at
abbrev pub EvenRecords : List ℕ → Type 0
EvenRecords ws = (k : ℕ) → k < count ws → uneven_at ws k ≡ false

both : (a b : Bool) → not (a && b) ≡ false → (a ≡ true) × (b ≡ true)
both true true h = (refl, refl)
both true false h = let z : ◌≡◌ {A = ℕ} 0 1 = cc in absurd (omega arith)
both false b h = let z : ◌≡◌ {A = ℕ} 0 1 = cc in absurd (omega arith)

pub even_points : (ws : List ℕ) (k : ℕ) → uneven_at ws k ≡ false
    → (even_point ws (word ws k 0) (key_at ws k 2) (key_at ws k 3) ≡ true) × (even_point ws (word ws k 0) (key_at ws k 4) (key_at ws k 5) ≡ true)
unfolding uneven_at
even_points ws k h = both _ _ h

even_counts : (ws : List ℕ) (p x y : ℕ) → even_point ws p x y ≡ true → starts ws p x y ≡ ends ws p x y
unfolding even_point
even_counts ws p x y h = eqb-true _ _ h

moved : (ws : List ℕ) {p q a b x y : ℕ} → p ≡ q → a ≡ x → b ≡ y → even_point ws p a b ≡ true → starts ws q x y ≡ ends ws q x y
moved ws {p} {q} {a} {b} {x} {y} e f g h = even_counts ws q x y (rw (e, f, g) at h)

-- the records' points are all that need looking at
pub even_balanced : (ws : List ℕ) → EvenRecords ws → Balanced ws
even_balanced ws h p x y = ⊎_elim
    (λ z. ⊎_elim
    (λ w. z ∙ sym w)
    (λ f. moved ws f.path f.first f.second (even_points ws f.k (h f.k f.within)).1)
    (counted 4 ws p x y (count ws)))
    (λ f. moved ws f.path f.first f.second (even_points ws f.k (h f.k f.within)).0)
    (counted 2 ws p x y (count ws))

pub balanced_even : (ws : List ℕ) → Balanced ws → EvenRecords ws
unfolding uneven_at even_point
balanced_even ws h k l = rw (eq-eqb _ _ (h (word ws k 0) (key (word ws k 2)) (key (word ws k 3))), eq-eqb _ _ (h (word ws k 0) (key (word ws k 4)) (key (word ws k 5))))

-- all points of all paths balance exactly when the two points of each record do
pub same_balance : (ws : List ℕ) → EvenRecords ws ↔ Balanced ws
same_balance ws = (even_balanced ws, balanced_even ws)
