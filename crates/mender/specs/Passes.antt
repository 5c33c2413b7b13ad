-- What becomes of each path, and so of the list: with no path left unmended it passes the check, and mending it again appends nothing. Assumes nothing.
use Prim.Native.Nat.{ℕ, zero, suc, ◌%◌, ◌≤◌, ◌<◌}
use Rattle.std.specs.Prelude.{Ok, ◌≡◌, Bool, ◌&&◌, ◌||◌, length}
use Rattle.std.proofs.Math.Path.{refl, sym, ap, subst}
use Rattle.std.proofs.Common.{◌∙◌, inl, inr, arith}
use Rattle.std.proofs.Math.Bool.{true, false, true≢false}
use mathlib.Core.List.{List, [], ◌++◌, append-nil, append_assoc}
use Rattle.std.proofs.Math.Dec.{eqb}
use borrow.Author.Tests.{eqb-true, eqb-false}
use Rattle.records.specs.Record.{between, count, path_of, starts, ends}
use Rattle.checker.specs.Verdict.{Finite, Answers}
use Rattle.checker.specs.Laws.{counted}
use Rattle.checker.specs.declared.Verdict.TheVariants.{Sound as Passed}
use Rattle.mender.specs.Mend.{BalancedIn, Gap, Mendable, line_of, IsCase}
use Rattle.mender.specs.MendLaws.{mended_path, others_kept, end_found, balanced_no_gap}
use Rattle.mender.specs.LineLaws.{line_whole, line_finite}
use Rattle.mender.specs.Report.{case_of, appended_of, seen_in, unless, appended_at, lines_to, lines_of, Lent, Mends}
use Rattle.mender.specs.ReportLaws.{case_is, is_case_of, seen_there}
use Rattle.mender.specs.declared.cases.Case.{Case}
use Rattle.mender.specs.declared.cases.Case.TheVariants.{Sound, Mended, NotMended}

-- ---- a path in the list with its lines so far

is_mended : Case → Bool
is_mended Sound = false
is_mended (Mended g) = true
is_mended NotMended = false

-- the line of the path q stands behind the first n records' paths
mended_in : List ℕ → ℕ → ℕ → ℕ → Bool
mended_in ws t q n = seen_in ws q n && is_mended (case_of ws t q)

-- its points are counted as before
abbrev Kept : List ℕ → List ℕ → ℕ → Type 0
Kept ws out q = (a b : ℕ) → (starts out q a b ≡ starts ws q a b) × (ends out q a b ≡ ends ws q a b)

-- a path without a line is as before, one with a line balances
StateOf : List ℕ → List ℕ → ℕ → Bool → Type 0
StateOf ws out q false = Kept ws out q
StateOf ws out q true = BalancedIn out q

state_same : (ws : List ℕ) (q : ℕ) {out out' : List ℕ} {m m' : Bool} → out ≡ out' → m ≡ m' → StateOf ws out q m → StateOf ws out' q m'
state_same ws q {out} {out'} {m} e f s = subst (λ (b : Bool). StateOf ws out' q b) f (subst (λ (l : List ℕ). StateOf ws l q m) e s)

gap_moved : (ws out : List ℕ) (p x y z w : ℕ) → Kept ws out p → Gap ws p x y z w → Gap out p x y z w
gap_moved ws out p x y z w k g =
    let a = k x y in
    let b = k z w in
    record {
      over = let o = g.over in omega (arith, a.0, a.1);
      under = let u = g.under in omega (arith, b.0, b.1);
      others = λ c d m n. (k c d).0 ∙ g.others c d m n ∙ sym (k c d).1;
    }

back : (ws out : List ℕ) (p : ℕ) → Kept ws out p → Kept out ws p
back ws out p k a b = (sym (k a b).0, sym (k a b).1)

state_other : (ws out : List ℕ) (p q x y z w : ℕ) (m : Bool) → length out % 6 ≡ 0 → (p ≡ q → ⊥) → StateOf ws out q m → StateOf ws (out ++ line_of p x y z w) q m
unfolding StateOf
state_other ws out p q x y z w false h d s = λ a b. let k = others_kept out p q x y z w a b h d in (k.0 ∙ (s a b).0, k.1 ∙ (s a b).1)
state_other ws out p q x y z w true h d s = λ a b. let k = others_kept out p q x y z w a b h d in k.0 ∙ s a b ∙ sym k.1

state_here : (ws out : List ℕ) (p q x y z w : ℕ) → length out % 6 ≡ 0 → Gap out p x y z w → p ≡ q → StateOf ws (out ++ line_of p x y z w) q true
unfolding StateOf
state_here ws out p q x y z w h g e = subst (λ (r : ℕ). BalancedIn (out ++ line_of p x y z w) r) e (λ a b. mended_path out p x y z w a b h g)

-- ---- one record more

record SoFar (ws : List ℕ) (t n : ℕ) (out : List ℕ) : Type 0 where
  pub whole : length out % 6 ≡ 0
  pub finite : Finite out
  pub states : (q : ℕ) → StateOf ws out q (mended_in ws t q n)

module _ (ws : List ℕ) (t : ℕ) where
  -- nothing is appended, and no path gets a line
  same : (n : ℕ) (out : List ℕ) {out' : List ℕ} → SoFar ws t n out → out ≡ out' → ((q : ℕ) → mended_in ws t q n ≡ mended_in ws t q (suc n)) → SoFar ws t (suc n) out'
  same n out h e f =
      record {
        whole = subst (λ (l : List ℕ). length l % 6 ≡ 0) e h.whole;
        finite = subst Finite e h.finite;
        states = λ q. state_same ws q e (f q) (h.states q);
      }

  known : (n q : ℕ) → seen_in ws (path_of ws n) n ≡ true → mended_in ws t q n ≡ mended_in ws t q (suc n)
  unfolding mended_in seen_in
  known n q s = by (eqb (path_of ws n) q) refl
    where
      by : (b : Bool) → eqb (path_of ws n) q ≡ b → seen_in ws q n && is_mended (case_of ws t q) ≡ (b || seen_in ws q n) && is_mended (case_of ws t q)
      by true e = ap (λ (b : Bool). b && is_mended (case_of ws t q)) (ap (λ (r : ℕ). seen_in ws r n) (sym (eqb-true (path_of ws n) q e)) ∙ s)
      by false e = refl

  and_false : (b : Bool) → b && false ≡ false
  and_false true = refl
  and_false false = refl

  without : (n q : ℕ) → is_mended (case_of ws t (path_of ws n)) ≡ false → mended_in ws t q n ≡ mended_in ws t q (suc n)
  unfolding mended_in seen_in
  without n q s = by (eqb (path_of ws n) q) refl
    where
      by : (b : Bool) → eqb (path_of ws n) q ≡ b → seen_in ws q n && is_mended (case_of ws t q) ≡ (b || seen_in ws q n) && is_mended (case_of ws t q)
      by true e =
          let m : is_mended (case_of ws t q) ≡ false = ap (λ (r : ℕ). is_mended (case_of ws t r)) (sym (eqb-true (path_of ws n) q e)) ∙ s in
          ap (λ (b : Bool). seen_in ws q n && b) m ∙ and_false (seen_in ws q n) ∙ sym m
      by false e = refl

  -- a line is appended
  mends : (n : ℕ) (out : List ℕ) (x y z w : ℕ) → SoFar ws t n out → seen_in ws (path_of ws n) n ≡ false → case_of ws t (path_of ws n) ≡ Mended (between x y z w) → SoFar ws t (suc n) (out ++ line_of (path_of ws n) x y z w)
  unfolding mended_in seen_in IsCase StateOf is_mended
  mends n out x y z w h s c =
      let p = path_of ws n in
      let m = subst (IsCase ws t p) c (case_is ws t p) in
      let k : Kept ws out p = state_same ws p refl (ap (λ (b : Bool). b && is_mended (case_of ws t p)) s) (h.states p) in
      let g = gap_moved ws out p x y z w k m.gap in
      record {
        whole = line_whole out p x y z w h.whole;
        finite = line_finite out p x y z w h.whole g h.finite;
        states = λ q. by q g (eqb p q) refl;
      }
    where
      by : (q : ℕ) → Gap out (path_of ws n) x y z w → (b : Bool) → eqb (path_of ws n) q ≡ b → StateOf ws (out ++ line_of (path_of ws n) x y z w) q ((b || seen_in ws q n) && is_mended (case_of ws t q))
      by q g true e =
          let f = eqb-true (path_of ws n) q e in
          state_same ws q refl (sym (ap is_mended (ap (case_of ws t) (sym f) ∙ c))) (state_here ws out (path_of ws n) q x y z w h.whole g f)
      by q g false e = state_other ws out (path_of ws n) q x y z w (seen_in ws q n && is_mended (case_of ws t q)) h.whole (eqb-false (path_of ws n) q e) (h.states q)

  behind : (n : ℕ) {vs : List ℕ} → appended_at ws t n ≡ vs → (ws ++ lines_to ws t n) ++ vs ≡ ws ++ lines_to ws t (suc n)
  unfolding lines_to
  behind n {vs} e = append_assoc ws (lines_to ws t n) vs ∙ ap (λ (l : List ℕ). ws ++ (lines_to ws t n ++ l)) (sym e)

  nothing : (n : ℕ) → appended_at ws t n ≡ [] → ws ++ lines_to ws t n ≡ ws ++ lines_to ws t (suc n)
  nothing n e = sym (append-nil (ws ++ lines_to ws t n)) ∙ behind n e

  step : (n : ℕ) → SoFar ws t n (ws ++ lines_to ws t n) → (b : Bool) → seen_in ws (path_of ws n) n ≡ b → (c : Case) → case_of ws t (path_of ws n) ≡ c → SoFar ws t (suc n) (ws ++ lines_to ws t (suc n))
  unfolding appended_at unless appended_of is_mended
  step n h true s c e = same n (ws ++ lines_to ws t n) h (nothing n (rw s)) (λ q. known n q s)
  step n h false s Sound e = same n (ws ++ lines_to ws t n) h (nothing n (rw (s, e))) (λ q. without n q (ap is_mended e))
  step n h false s (Mended g) e = subst (SoFar ws t (suc n)) (behind n (rw (s, e))) (mends n (ws ++ lines_to ws t n) g.x g.y g.z g.w h s e)
  step n h false s NotMended e = same n (ws ++ lines_to ws t n) h (nothing n (rw (s, e))) (λ q. without n q (ap is_mended e))

  so_far : (n : ℕ) → length ws % 6 ≡ 0 → Finite ws → SoFar ws t n (ws ++ lines_to ws t n)
  unfolding lines_to mended_in seen_in StateOf
  so_far zero h f = subst (SoFar ws t 0) (sym (append-nil ws)) (record { whole = h; finite = f; states = λ q a b. (refl, refl) })
  so_far (suc n) h f = step n (so_far n h f) (seen_in ws (path_of ws n) n) refl (case_of ws t (path_of ws n)) refl

  -- ---- all paths

  -- a path with a gap appears in the list
  gap_seen : (q x y z w : ℕ) → Gap ws q x y z w → seen_in ws q (count ws) ≡ true
  gap_seen q x y z w g = let f = end_found ws q x y z w g in seen_there ws q f.k (count ws) f.within f.path

  unseen_balanced : (q : ℕ) → seen_in ws q (count ws) ≡ false → BalancedIn ws q
  unseen_balanced q s a b = elim (counted 2 ws q a b (count ws)) [
    | inl u ↦ elim (counted 4 ws q a b (count ws)) [
      | inl v ↦ u ∙ sym v
      | inr f ↦ absurd (true≢false (sym (seen_there ws q f.k (count ws) f.within f.path) ∙ s))
    ]
    | inr f ↦ absurd (true≢false (sym (seen_there ws q f.k (count ws) f.within f.path) ∙ s))
  ]

  -- no path of a record is left unmended
  pub NoneLeft : Type 0
  NoneLeft = (k : ℕ) → k < count ws → case_of ws t (path_of ws k) ≡ NotMended → ⊥

  left_absurd : (q n : ℕ) → n ≤ count ws → NoneLeft → case_of ws t q ≡ NotMended → seen_in ws q n ≡ true → ⊥
  unfolding seen_in NoneLeft
  left_absurd q zero l h c s = true≢false (sym s)
  left_absurd q (suc n) l h c s = by (eqb (path_of ws n) q) refl s (left_absurd q n (omega arith) h c)
    where
      by : (b : Bool) → eqb (path_of ws n) q ≡ b → b || seen_in ws q n ≡ true → (seen_in ws q n ≡ true → ⊥) → ⊥
      by true e u v = h n (omega arith) (ap (case_of ws t) (eqb-true (path_of ws n) q e) ∙ c)
      by false e u v = v u

  module _ (whole : length ws % 6 ≡ 0) (finite : Finite ws) where
    out : List ℕ
    out = ws ++ lines_of ws t

    state : (q : ℕ) → StateOf ws out q (mended_in ws t q (count ws))
    unfolding out
    state q = (so_far (count ws) whole finite).states q

    -- a path that is sound stays sound, one that is mended becomes so
    path_balanced : (q : ℕ) → NoneLeft → (c : Case) → case_of ws t q ≡ c → BalancedIn out q
    unfolding IsCase mended_in StateOf is_mended
    path_balanced q h Sound c =
        let b = subst (IsCase ws t q) c (case_is ws t q) in
        let k : Kept ws out q = state_same ws q refl (ap (λ (d : Case). seen_in ws q (count ws) && is_mended d) c ∙ and_false (seen_in ws q (count ws))) (state q) in
        λ x y. (k x y).0 ∙ b x y ∙ sym (k x y).1
    path_balanced q h (Mended g) c =
        let m = subst (IsCase ws t q) c (case_is ws t q) in
        state_same ws q refl (ap (λ (d : Case). seen_in ws q (count ws) && is_mended d) c ∙ ap (λ (b : Bool). b && true) (gap_seen q g.x g.y g.z g.w m.gap)) (state q)
    path_balanced q h NotMended c = absurd (by (seen_in ws q (count ws)) refl)
      where
        by : (b : Bool) → seen_in ws q (count ws) ≡ b → ⊥
        by true s = left_absurd q (count ws) (omega arith) h c s
        by false s = (subst (IsCase ws t q) c (case_is ws t q)).0 (unseen_balanced q s)

    -- with no path left unmended the list passes the check
    pub passes : count (ws ++ lines_of ws t) ≤ 2000 → NoneLeft → Answers (ws ++ lines_of ws t) (Ok Passed)
    unfolding Answers out
    passes n h =
        let s = so_far (count ws) whole finite in (
          record { few = n; whole = s.whole },
          record { finite = s.finite; balanced = λ q. path_balanced q h (case_of ws t q) refl },
        )

    mendable_back : (q x y z w : ℕ) → Kept ws out q → Mendable out t q x y z w → Mendable ws t q x y z w
    mendable_back q x y z w k m = record { gap = gap_moved out ws q x y z w (back ws out q k) m.gap; near_x = m.near_x; near_y = m.near_y }

    -- no path of the mended list has a gap that can be mended
    none_again : (q x y z w : ℕ) → Mendable out t q x y z w → ⊥
    unfolding mended_in StateOf IsCase is_mended
    none_again q x y z w m = by (seen_in ws q (count ws) && is_mended (case_of ws t q)) refl (state q)
      where
        by : (b : Bool) → seen_in ws q (count ws) && is_mended (case_of ws t q) ≡ b → StateOf ws out q b → ⊥
        by true e s = balanced_no_gap out q x y z w s m.gap
        by false e s =
            let g = mendable_back q x y z w s m in
            let c : Mended (between x y z w) ≡ case_of ws t q = is_case_of ws t q g in
            true≢false (sym (ap (λ (b : Bool). b && is_mended (case_of ws t q)) (gap_seen q x y z w g.gap) ∙ ap is_mended (sym c)) ∙ e)

-- ---- lists to which nothing is appended

module _ (ws : List ℕ) (t : ℕ) where
  no_line : (n : ℕ) → is_mended (case_of ws t (path_of ws n)) ≡ false → appended_at ws t n ≡ []
  unfolding appended_at unless appended_of is_mended
  no_line n e = by (seen_in ws (path_of ws n) n) (case_of ws t (path_of ws n)) e
    where
      by : (b : Bool) (c : Case) → is_mended c ≡ false → unless b (appended_of (path_of ws n) c) ≡ []
      by true c h = refl
      by false Sound h = refl
      by false (Mended g) h = absurd (true≢false h)
      by false NotMended h = refl

  no_lines : (n : ℕ) → ((k : ℕ) → k < n → is_mended (case_of ws t (path_of ws k)) ≡ false) → lines_to ws t n ≡ []
  unfolding lines_to
  no_lines zero h = refl
  no_lines (suc n) h = rw (no_lines n (λ k l. h k (omega arith)), no_line n (h n (omega arith)))

  not_mended : (p : ℕ) → ((x y z w : ℕ) → Mendable ws t p x y z w → ⊥) → is_mended (case_of ws t p) ≡ false
  unfolding IsCase is_mended
  not_mended p h = by (case_of ws t p) (case_is ws t p)
    where
      by : (c : Case) → IsCase ws t p c → is_mended c ≡ false
      by Sound m = refl
      by (Mended g) m = absurd (h g.x g.y g.z g.w m)
      by NotMended m = refl

  -- a list whose paths are all sound stays as it is, word for word
  pub sound_stays : ((k : ℕ) → k < count ws → BalancedIn ws (path_of ws k)) → ws ++ lines_of ws t ≡ ws
  sound_stays h =
      ap (λ (l : List ℕ). ws ++ l) (no_lines (count ws) (λ k l. not_mended (path_of ws k) (λ x y z w m. balanced_no_gap ws (path_of ws k) x y z w (h k l) m.gap))) ∙ append-nil ws

-- mending a mended list appends nothing
pub again_nothing : (ws : List ℕ) (t : ℕ) → length ws % 6 ≡ 0 → Finite ws → lines_of (ws ++ lines_of ws t) t ≡ []
unfolding out
again_nothing ws t h f = no_lines (ws ++ lines_of ws t) t _ (λ k l. not_mended (ws ++ lines_of ws t) t _ (none_again ws t h f _))

-- what `mend` is done with, and no path left unmended, passes the check
pub mended_passes : (ws : List ℕ) (t : ℕ) (before after : Lent) (paths lines : ℕ) → Mends ws t before (Ok (record { paths = paths; lines = lines })) after → NoneLeft ws t → Answers (ws ++ lines_of ws t) (Ok Passed)
unfolding Mends
mended_passes ws t before after paths lines a h = passes ws t a.0.whole a.1 a.2.few h
