-- Which paths have been seen, and how long the report and the lines are. Assumes nothing.
use Rattle.std.specs.Prelude.{ℕ, zero, suc, ◌+◌, ◌-◌, ◌≤◌, ◌<◌, ◌≡◌, refl, Bool, true, false, ◌||◌, List, [], ◌∷◌, ◌++◌, eqb, ltb, length, set}
use Rattle.std.proofs.Common.{sym, ap, ◌∙◌, add-one, arith, length-append, ltb-true, ltb-false, eq-eqb, ne_eqb}
use Rattle.std.proofs.lemmas.List.Edits.{sets}
use Rattle.records.specs.Record.{count, path_of}
use Rattle.mender.specs.Mend.{IsCase}
use Rattle.mender.specs.CaseLaws.{or_last}
use Rattle.mender.specs.Judge.{case_only, judge}
use Rattle.mender.specs.Report.{case_of, said_of, appended_of, seen_in, unless, said_at, appended_at, report_to, lines_to}
use Rattle.mender.specs.declared.cases.Case.{Case}
use Rattle.mender.specs.declared.cases.Case.TheVariants.{Sound, Mended, NotMended}

-- ---- the case

pub case_is : (ws : List ℕ) (t p : ℕ) → IsCase ws t p (case_of ws t p)
unfolding case_of
case_is ws t p = (judge ws t p).is

pub is_case_of : (ws : List ℕ) (t p : ℕ) {r : Case} → IsCase ws t p r → r ≡ case_of ws t p
is_case_of ws t p {r} h = case_only ws t p r (case_of ws t p) h (case_is ws t p)

-- ---- what has been seen

pub none_seen : (ws : List ℕ) (p k : ℕ) → ((j : ℕ) → j < k → path_of ws j ≡ p → ⊥) → seen_in ws p k ≡ false
unfolding seen_in
none_seen ws p zero h = refl
none_seen ws p (suc k) h = rw (ne_eqb _ _ (h k (omega arith)), none_seen ws p k (λ j l. h j (omega arith)))

pub seen_later : (ws : List ℕ) (p k : ℕ) → (path_of ws k ≡ p → ⊥) → seen_in ws p k ≡ false → seen_in ws p (k + 1) ≡ false
unfolding seen_in
seen_later ws p k h e = rw (add-one k, ne_eqb _ _ h, e)

pub seen_there : (ws : List ℕ) (p j k : ℕ) → j < k → path_of ws j ≡ p → seen_in ws p k ≡ true
unfolding seen_in
seen_there ws p j zero l e = absurd (omega arith)
seen_there ws p j (suc k) l e = by (ltb j k) refl (seen_there ws p j k)
  where
    by : (b : Bool) → ltb j k ≡ b → (j < k → path_of ws j ≡ p → seen_in ws p k ≡ true) → eqb (path_of ws k) p || seen_in ws p k ≡ true
    by true t h = ap (λ (s : Bool). eqb (path_of ws k) p || s) (h (ltb-true j k t) e) ∙ or_last (eqb (path_of ws k) p)
    by false t h = let i : j ≡ k = omega (arith, ltb-false j k t) in rw (eq-eqb _ _ (ap (path_of ws) (sym i) ∙ e))

-- ---- what is said of a record

-- of a path that has been seen, nothing
pub nothing_at : (ws : List ℕ) (t k : ℕ) {p : ℕ} {s : Bool} → p ≡ path_of ws k → s ≡ seen_in ws p k → s ≡ true → (said_at ws t k ≡ []) × (appended_at ws t k ≡ [])
unfolding said_at appended_at unless
nothing_at ws t k {p} e f g =
    let h : seen_in ws (path_of ws k) k ≡ true = ap (λ (q : ℕ). seen_in ws q k) (sym e) ∙ sym f ∙ g in
    (rw h, rw h)

pub new_at : (ws : List ℕ) (t k : ℕ) {p : ℕ} {s : Bool} (c : Case) → p ≡ path_of ws k → s ≡ seen_in ws p k → s ≡ false → IsCase ws t p c → (said_at ws t k ≡ said_of p c) × (appended_at ws t k ≡ appended_of p c)
unfolding said_at appended_at unless
new_at ws t k {p} {s} c e f g i =
    let h : seen_in ws (path_of ws k) k ≡ false = ap (λ (q : ℕ). seen_in ws q k) (sym e) ∙ sym f ∙ g in
    let d : case_of ws t (path_of ws k) ≡ c = ap (case_of ws t) (sym e) ∙ sym (is_case_of ws t p i) in
    (rw (h, d, e), rw (h, d, e))

-- ---- lengths

pub said_six : (p : ℕ) (c : Case) → length (said_of p c) ≡ 6
unfolding said_of
said_six p Sound = refl
said_six p (Mended g) = refl
said_six p NotMended = refl

appended_short : (p : ℕ) (c : Case) → length (appended_of p c) ≤ 6
unfolding appended_of
appended_short p Sound = omega arith
appended_short p (Mended g) = omega arith
appended_short p NotMended = omega arith

unless_short : (b : Bool) (l : List ℕ) → length l ≤ 6 → length (unless b l) ≤ 6
unfolding unless
unless_short true l h = omega arith
unless_short false l h = h

pub said_short : (ws : List ℕ) (t k : ℕ) → length (said_at ws t k) ≤ 6
unfolding said_at
said_short ws t k = unless_short _ _ (let e = said_six (path_of ws k) (case_of ws t (path_of ws k)) in omega arith)

pub line_short : (ws : List ℕ) (t k : ℕ) → length (appended_at ws t k) ≤ 6
unfolding appended_at
line_short ws t k = unless_short _ _ (appended_short (path_of ws k) (case_of ws t (path_of ws k)))

pub report_more : (ws : List ℕ) (t k : ℕ) → length (report_to ws t (k + 1)) ≡ length (report_to ws t k) + length (said_at ws t k)
unfolding report_to
report_more ws t k = ap (λ (j : ℕ). length (report_to ws t j)) (add-one k) ∙ length-append (report_to ws t k) (said_at ws t k)

pub lines_more : (ws : List ℕ) (t k : ℕ) → length (lines_to ws t (k + 1)) ≡ length (lines_to ws t k) + length (appended_at ws t k)
unfolding lines_to
lines_more ws t k = ap (λ (j : ℕ). length (lines_to ws t j)) (add-one k) ∙ length-append (lines_to ws t k) (appended_at ws t k)

module _ (ws : List ℕ) (t : ℕ) where
  report_grows : (k m : ℕ) → length (report_to ws t k) ≤ length (report_to ws t (k + m))
  report_grows k zero = let e : k + 0 ≡ k = omega arith in rw e (omega arith)
  report_grows k (suc m) =
      let e : k + suc m ≡ k + m + 1 = omega arith in
      let h = report_grows k m in
      let g = report_more ws t (k + m) in
      rw e (omega arith)

  lines_grow : (k m : ℕ) → length (lines_to ws t k) ≤ length (lines_to ws t (k + m))
  lines_grow k zero = let e : k + 0 ≡ k = omega arith in rw e (omega arith)
  lines_grow k (suc m) =
      let e : k + suc m ≡ k + m + 1 = omega arith in
      let h = lines_grow k m in
      let g = lines_more ws t (k + m) in
      rw e (omega arith)

  pub report_up : (k : ℕ) → k ≤ count ws → length (report_to ws t k) ≤ length (report_to ws t (count ws))
  report_up k h = let e : k + (count ws - k) ≡ count ws = omega arith in let g = report_grows k (count ws - k) in let f = ap (λ (j : ℕ). length (report_to ws t j)) e in omega arith

  pub lines_up : (k : ℕ) → k ≤ count ws → length (lines_to ws t k) ≤ length (lines_to ws t (count ws))
  lines_up k h = let e : k + (count ws - k) ≡ count ws = omega arith in let g = lines_grow k (count ws - k) in let f = ap (λ (j : ℕ). length (lines_to ws t j)) e in omega arith

-- ---- storing on

sets_on : (l : List ℕ) (i : ℕ) (vs us : List ℕ) → sets (sets l i vs) (i + length vs) us ≡ sets l i (vs ++ us)
sets_on l i [] us = let e : i + 0 ≡ i = omega arith in ap (λ (j : ℕ). sets l j us) e
sets_on l i (a ∷ vs) us = let e : i + suc (length vs) ≡ suc i + length vs = omega arith in ap (λ (j : ℕ). sets (sets l i (a ∷ vs)) j us) e ∙ sets_on (set l i a) (suc i) vs us

pub sets_behind : (l vs us : List ℕ) → sets (sets l 0 vs) (length vs) us ≡ sets l 0 (vs ++ us)
sets_behind l vs us = let e : length vs ≡ 0 + length vs = omega arith in ap (λ (j : ℕ). sets (sets l 0 vs) j us) e ∙ sets_on l 0 vs us
