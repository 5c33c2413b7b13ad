-- What a search among the records of a path shows of its case. Assumes nothing.
use Rattle.std.specs.Prelude.{ℕ, ◌+◌, ◌<◌, ◌≡◌, ◌⊎◌, Bool, not, ◌&&◌, ◌||◌, List}
use Rattle.std.proofs.Math.Path.{refl, ap}
use Rattle.std.proofs.Common.{sym, ◌∙◌, arith}
use Rattle.std.proofs.Math.Logic.{inl, inr}
use Rattle.std.proofs.Math.Bool.{true, false, true≢false}
use Rattle.std.proofs.Math.Dec.{eqb}
use borrow.Author.Tests.{eqb-true, eq-eqb, not-false}
use Rattle.records.specs.Record.{between, count, path_of, starts, ends}
use Rattle.checker.specs.Verdict.{key_at}
use Rattle.checker.specs.Laws.{counted}
use Rattle.mender.specs.Near.{is_near}
use Rattle.mender.specs.Mend.{BalancedIn, Gap, Mendable, IsCase}
use Rattle.mender.specs.MendLaws.{one_over, one_under, end_found, start_found}
use Rattle.mender.specs.Finding.{Allowed, gap_by_records}
use Rattle.mender.specs.Sought.{allowed_point, is_sought, sought_at}
use Rattle.mender.specs.declared.cases.Case.TheVariants.{Mended, NotMended}
use Rattle.mender.specs.declared.cases.Sought.{Sought}
use Rattle.mender.specs.declared.cases.Sought.TheVariants.{Uneven, OpenEnd, OpenStart, Other}

-- ---- truth values

and_true : (a b : Bool) → a && b ≡ true → (a ≡ true) × (b ≡ true)
and_true true true h = (refl, refl)
and_true true false h = absurd (true≢false (sym h))
and_true false b h = absurd (true≢false (sym h))

or_true : (a b : Bool) → a || b ≡ true → (a ≡ true) ⊎ (b ≡ true)
or_true true b h = inl refl
or_true false b h = inr h

not_both : (a b : Bool) → a ≡ true → b ≡ true → not (a && b) ≡ true → ⊥
not_both true true e f h = true≢false (sym h)
not_both true false e f h = true≢false (sym f)
not_both false b e f h = true≢false (sym e)

pub or_last : (a : Bool) → a || true ≡ true
or_last true = refl
or_last false = refl

-- two equal words, told by tests
same_words_lem : (a x b y : ℕ) → (x ≡ a) × (y ≡ b) → eqb a x && eqb b y ≡ true
same_words_lem a x b y h = rw (eq-eqb a x (sym h.0), eq-eqb b y (sym h.1))

tested : (a x b y : ℕ) → eqb a x && eqb b y ≡ true → (x ≡ a) × (y ≡ b)
tested a x b y h = let t = and_true _ _ h in (sym (eqb-true a x t.0), sym (eqb-true b y t.1))

-- ---- one record

module _ (ws : List ℕ) (p : ℕ) where
  -- the counts of a point of the path, at the keys of a record that was found with it
  moved : {a b x y : ℕ} → a ≡ x → b ≡ y → starts ws p a b ≡ ends ws p a b → starts ws p x y ≡ ends ws p x y
  moved e f h = rw (e, f) at h

  -- a record of the path that is not what is sought
  not_sought : (what : Sought) (k : ℕ) {b : Bool} → path_of ws k ≡ p → sought_at ws p what k ≡ eqb (path_of ws k) p && b → sought_at ws p what k ≡ false → b ≡ false
  not_sought what k {b} e f h = sym (ap (λ (t : Bool). t && b) (eq-eqb _ _ e)) ∙ sym f ∙ h

  found_sought : (what : Sought) (k : ℕ) {b : Bool} → sought_at ws p what k ≡ eqb (path_of ws k) p && b → sought_at ws p what k ≡ true → b ≡ true
  found_sought what k {b} f h = (and_true (eqb (path_of ws k) p) b (sym f ∙ h)).1

  even_record : (k : ℕ) → path_of ws k ≡ p → sought_at ws p Uneven k ≡ false
      → (starts ws p (key_at ws k 2) (key_at ws k 3) ≡ ends ws p (key_at ws k 2) (key_at ws k 3)) × (starts ws p (key_at ws k 4) (key_at ws k 5) ≡ ends ws p (key_at ws k 4) (key_at ws k 5))
  unfolding sought_at is_sought
  even_record k e h =
      let t = and_true _ _ (not-false _ (not_sought Uneven k e refl h)) in
      (eqb-true _ _ t.0, eqb-true _ _ t.1)

  -- no record of the path has a point out of balance
  pub none_uneven : ((k : ℕ) → k < count ws → sought_at ws p Uneven k ≡ false) → BalancedIn ws p
  none_uneven h a b = elim (counted 2 ws p a b (count ws)) [
    | inl u ↦ elim (counted 4 ws p a b (count ws)) [
      | inl v ↦ u ∙ sym v
      | inr f ↦ moved f.first f.second (even_record f.k f.path (h f.k f.within)).1
    ]
    | inr f ↦ moved f.first f.second (even_record f.k f.path (h f.k f.within)).0
  ]

  pub some_uneven : (k : ℕ) → sought_at ws p Uneven k ≡ true → BalancedIn ws p → ⊥
  unfolding sought_at is_sought
  some_uneven k h g = not_both _ _ (eq-eqb _ _ (g (key_at ws k 2) (key_at ws k 3))) (eq-eqb _ _ (g (key_at ws k 4) (key_at ws k 5))) (found_sought Uneven k refl h)

  pub open_end : (k : ℕ) → sought_at ws p OpenEnd k ≡ true → ends ws p (key_at ws k 4) (key_at ws k 5) ≡ starts ws p (key_at ws k 4) (key_at ws k 5) + 1
  unfolding sought_at is_sought
  open_end k h = eqb-true _ _ (found_sought OpenEnd k refl h)

  pub open_start : (k : ℕ) → sought_at ws p OpenStart k ≡ true → starts ws p (key_at ws k 2) (key_at ws k 3) ≡ ends ws p (key_at ws k 2) (key_at ws k 3) + 1
  unfolding sought_at is_sought
  open_start k h = eqb-true _ _ (found_sought OpenStart k refl h)

  -- ---- a gap is found where there is one

  sought_there : (what : Sought) (k : ℕ) {b : Bool} → path_of ws k ≡ p → sought_at ws p what k ≡ eqb (path_of ws k) p && b → b ≡ true → sought_at ws p what k ≡ false → ⊥
  sought_there what k e f g h = true≢false (sym g ∙ not_sought what k e f h)

  over_there : {a b x y : ℕ} → a ≡ x → b ≡ y → ends ws p x y ≡ starts ws p x y + 1 → eqb (ends ws p a b) (starts ws p a b + 1) ≡ true
  over_there e f h = rw (e, f) (eq-eqb _ _ h)

  under_there : {a b x y : ℕ} → a ≡ x → b ≡ y → starts ws p x y ≡ ends ws p x y + 1 → eqb (starts ws p a b) (ends ws p a b + 1) ≡ true
  under_there e f h = rw (e, f) (eq-eqb _ _ h)

  pub no_open_end : ((k : ℕ) → k < count ws → sought_at ws p OpenEnd k ≡ false) → (x y z w : ℕ) → Gap ws p x y z w → ⊥
  unfolding sought_at is_sought
  no_open_end h x y z w g =
      let f = end_found ws p x y z w g in
      sought_there OpenEnd f.k f.path refl (over_there f.first f.second g.over) (h f.k f.within)

  pub no_open_start : ((k : ℕ) → k < count ws → sought_at ws p OpenStart k ≡ false) → (x y z w : ℕ) → Gap ws p x y z w → ⊥
  unfolding sought_at is_sought
  no_open_start h x y z w g =
      let f = start_found ws p x y z w g in
      sought_there OpenStart f.k f.path refl (under_there f.first f.second g.under) (h f.k f.within)

  module _ (x y z w : ℕ) where
    allowed_is : (a b : ℕ) → allowed_point (starts ws p a b) (ends ws p a b) a b x y z w ≡ true → Allowed ws p x y z w a b
    unfolding allowed_point
    allowed_is a b h = elim (or_true (eqb (starts ws p a b) (ends ws p a b)) _ h) [
      | inl e ↦ inl (eqb-true _ _ e)
      | inr f ↦ elim (or_true (eqb a x && eqb b y) (eqb a z && eqb b w) f) [
        | inl e ↦ inr (inl (tested a x b y e))
        | inr e ↦ inr (inr (tested a z b w e))
      ]
    ]

    allows : Gap ws p x y z w → (a b : ℕ) → allowed_point (starts ws p a b) (ends ws p a b) a b x y z w ≡ true
    unfolding allowed_point
    allows g a b = by (eqb a x && eqb b y) (eqb a z && eqb b w) refl refl
      where
        by : (u v : Bool) → eqb a x && eqb b y ≡ u → eqb a z && eqb b w ≡ v → eqb (starts ws p a b) (ends ws p a b) || (u || v) ≡ true
        by true v e f = or_last (eqb (starts ws p a b) (ends ws p a b))
        by false true e f = or_last (eqb (starts ws p a b) (ends ws p a b))
        by false false e f =
            ap (λ (t : Bool). t || false) (eq-eqb (starts ws p a b) (ends ws p a b) (g.others a b (λ h. true≢false (sym (same_words_lem a x b y h) ∙ e)) (λ h. true≢false (sym (same_words_lem a z b w h) ∙ f))))

    -- both points of a record of the path are allowed
    allowed_record : (k : ℕ) → path_of ws k ≡ p → sought_at ws p (Other (between x y z w)) k ≡ false → Allowed ws p x y z w (key_at ws k 2) (key_at ws k 3) × Allowed ws p x y z w (key_at ws k 4) (key_at ws k 5)
    unfolding sought_at is_sought
    allowed_record k e h =
        let t = and_true _ _ (not-false _ (not_sought (Other (between x y z w)) k e refl h)) in
        (allowed_is (key_at ws k 2) (key_at ws k 3) t.0, allowed_is (key_at ws k 4) (key_at ws k 5) t.1)

    no_other : ends ws p x y ≡ starts ws p x y + 1 → starts ws p z w ≡ ends ws p z w + 1
        → ((k : ℕ) → k < count ws → sought_at ws p (Other (between x y z w)) k ≡ false) → Gap ws p x y z w
    no_other o u h =
        gap_by_records ws p x y z w o u (λ k l e. (allowed_record k e (h k l)).0) (λ k l e. (allowed_record k e (h k l)).1)

    some_other : (k : ℕ) → sought_at ws p (Other (between x y z w)) k ≡ true → Gap ws p x y z w → ⊥
    unfolding sought_at is_sought
    some_other k h g = not_both _ _ (allows g (key_at ws k 2) (key_at ws k 3)) (allows g (key_at ws k 4) (key_at ws k 5)) (found_sought (Other (between x y z w)) k refl h)

-- ---- the case

gap_at : (ws : List ℕ) (p : ℕ) {x y z w a b c d : ℕ} → a ≡ x → b ≡ y → c ≡ z → d ≡ w → Gap ws p a b c d → Gap ws p x y z w
gap_at ws p e f g h k = rw (e, f, g, h) at k

near_at : (t : ℕ) {a b x y : ℕ} → a ≡ x → b ≡ y → is_near t a b ≡ true → is_near t x y ≡ true
near_at t e f h = rw (e, f) at h

-- one point is an end once more, one a start once more
module _ (ws : List ℕ) (t p x y z w : ℕ) (o : ends ws p x y ≡ starts ws p x y + 1) (u : starts ws p z w ≡ ends ws p z w + 1) where
  unbalanced : BalancedIn ws p → ⊥
  unbalanced h = let e = h x y in omega arith

  -- so there is no other gap
  this_one : (a b c d : ℕ) → Mendable ws t p a b c d → Mendable ws t p x y z w
  this_one a b c d m =
      let e = one_over ws p x y a b c d o m.gap in
      let f = one_under ws p z w a b c d u m.gap in
      record {
        gap = gap_at ws p e.0 e.1 f.0 f.1 m.gap;
        near_x = near_at t e.0 f.0 m.near_x;
        near_y = near_at t e.1 f.1 m.near_y;
      }

  unmended : (Mendable ws t p x y z w → ⊥) → IsCase ws t p NotMended
  unfolding IsCase
  unmended h = (unbalanced, λ a b c d m. h (this_one a b c d m))

  pub other_unmended : (k : ℕ) → sought_at ws p (Other (between x y z w)) k ≡ true → IsCase ws t p NotMended
  other_unmended k h = unmended (λ m. some_other ws p x y z w k h m.gap)

  pub far_unmended : (is_near t x z ≡ false) ⊎ (is_near t y w ≡ false) → IsCase ws t p NotMended
  far_unmended (inl h) = unmended (λ m. true≢false (sym m.near_x ∙ h))
  far_unmended (inr h) = unmended (λ m. true≢false (sym m.near_y ∙ h))

  pub none_other_mended : ((k : ℕ) → k < count ws → sought_at ws p (Other (between x y z w)) k ≡ false) → is_near t x z ≡ true → is_near t y w ≡ true → IsCase ws t p (Mended (between x y z w))
  unfolding IsCase
  none_other_mended h e f = record { gap = no_other ws p x y z w o u h; near_x = e; near_y = f }

pub no_gap_unmended : (ws : List ℕ) (t p : ℕ) → (BalancedIn ws p → ⊥) → ((x y z w : ℕ) → Gap ws p x y z w → ⊥) → IsCase ws t p NotMended
unfolding IsCase
no_gap_unmended ws t p b h = (b, λ x y z w m. h x y z w m.gap)
