-- Each path has one case, and only one. Assumes nothing.
use Rattle.std.specs.Prelude.{ℕ, zero, suc, ◌≤◌, ◌<◌, ◌≡◌, Bool, List, ltb}
use Rattle.std.proofs.Math.Path.{refl}
use Rattle.std.proofs.Common.{ap, ◌∙◌, inl, inr, arith, ltb-true, ltb-false}
use Rattle.std.proofs.Math.Bool.{true, false}
use Rattle.laws.specs.Only.{Only}
use Rattle.records.specs.Record.{between, count}
use Rattle.checker.specs.Search.{Stop}
use Rattle.checker.specs.Verdict.{key_at}
use Rattle.mender.specs.Near.{is_near}
use Rattle.mender.specs.Mend.{BalancedIn, IsCase}
use Rattle.mender.specs.MendLaws.{gap_only, balanced_no_gap}
use Rattle.mender.specs.Sought.{sought_at}
use Rattle.mender.specs.CaseLaws.{none_uneven, some_uneven, open_end, open_start, no_open_end, no_open_start, other_unmended, far_unmended, none_other_mended, no_gap_unmended}
use Rattle.mender.specs.declared.cases.Case.{Case}
use Rattle.mender.specs.declared.cases.Case.TheVariants.{Sound, Mended, NotMended}
use Rattle.mender.specs.declared.cases.Sought.TheVariants.{Uneven, OpenEnd, OpenStart, Other}

-- ---- only one

same_points : {x y z w a b c d : ℕ} → a ≡ x → b ≡ y → c ≡ z → d ≡ w → Mended (between x y z w) ≡ Mended (between a b c d)
same_points e f g h = rw (e, f, g, h)

pub case_only : (ws : List ℕ) (t p : ℕ) → Only (IsCase ws t p)
unfolding IsCase
case_only ws t p Sound Sound a b = refl
case_only ws t p Sound (Mended g) a b = absurd (balanced_no_gap ws p g.x g.y g.z g.w a b.gap)
case_only ws t p Sound NotMended a b = absurd (b.0 a)
case_only ws t p (Mended g) Sound a b = absurd (balanced_no_gap ws p g.x g.y g.z g.w b a.gap)
case_only ws t p (Mended g) (Mended h) a b =
    let e = gap_only ws p g.x g.y g.z g.w h.x h.y h.z h.w a.gap b.gap in
    same_points e.0 e.1 e.2 e.3
case_only ws t p (Mended g) NotMended a b = absurd (b.1 g.x g.y g.z g.w a)
case_only ws t p NotMended Sound a b = absurd (a.0 b)
case_only ws t p NotMended (Mended g) a b = absurd (a.1 g.x g.y g.z g.w b)
case_only ws t p NotMended NotMended a b = refl

-- ---- and one

record Searched (f : ℕ → Bool) (n : ℕ) : Type 0 where
  pub k : ℕ
  pub stops : Stop f n k

found_last : (f : ℕ → Bool) (n : ℕ) → ((j : ℕ) → j < n → f j ≡ false) → (b : Bool) → f n ≡ b → Searched f (suc n)
found_last f n h true e = record { k = n; stops = record { within = omega arith; none = h; here = λ l. e } }
found_last f n h false e = record { k = suc n; stops = record { within = omega arith; none = λ j l. passed j l (ltb j n) refl; here = λ l. absurd (omega arith) } }
  where
    passed : (j : ℕ) → j < suc n → (c : Bool) → ltb j n ≡ c → f j ≡ false
    passed j l true g = h j (ltb-true j n g)
    passed j l false g = let i : j ≡ n = omega (arith, ltb-false j n g) in ap f i ∙ e

search_on : (f : ℕ → Bool) (n k : ℕ) → Stop f n k → (b : Bool) → ltb k n ≡ b → Searched f (suc n)
search_on f n k s true e = record { k = k; stops = record { within = omega (arith, ltb-true k n e); none = s.none; here = λ l. s.here (ltb-true k n e) } }
search_on f n k s false e = found_last f n (λ j l. s.none j (omega (arith, ltb-false k n e))) (f n) refl

search_all : (f : ℕ → Bool) (n : ℕ) → Searched f n
search_all f zero = record { k = 0; stops = record { within = omega arith; none = λ j l. absurd (omega arith); here = λ l. absurd (omega arith) } }
search_all f (suc n) = let r = search_all f n in search_on f n r.k r.stops (ltb r.k n) refl

none_before : {f : ℕ → Bool} {n k : ℕ} → Stop f n k → n ≤ k → (j : ℕ) → j < n → f j ≡ false
none_before s l j m = s.none j (omega arith)

-- the case of a path, and that it is the case
pub record Judged (ws : List ℕ) (t p : ℕ) : Type 0 where
  pub case : Case
  pub is : IsCase ws t p case

module _ (ws : List ℕ) (t p : ℕ) where
  judge_near : (e s : ℕ) → sought_at ws p OpenEnd e ≡ true → sought_at ws p OpenStart s ≡ true
      → ((k : ℕ) → k < count ws → sought_at ws p (Other (between (key_at ws e 4) (key_at ws e 5) (key_at ws s 2) (key_at ws s 3))) k ≡ false)
      → (a b : Bool) → is_near t (key_at ws e 4) (key_at ws s 2) ≡ a → is_near t (key_at ws e 5) (key_at ws s 3) ≡ b → Judged ws t p
  judge_near e s o u n true true f g =
      record { case = Mended (between (key_at ws e 4) (key_at ws e 5) (key_at ws s 2) (key_at ws s 3)); is = none_other_mended ws t p _ _ _ _ (open_end ws p e o) (open_start ws p s u) n f g }
  judge_near e s o u n true false f g = record { case = NotMended; is = far_unmended ws t p _ _ _ _ (open_end ws p e o) (open_start ws p s u) (inr g) }
  judge_near e s o u n false b f g = record { case = NotMended; is = far_unmended ws t p _ _ _ _ (open_end ws p e o) (open_start ws p s u) (inl f) }

  judge_other : (e s : ℕ) → sought_at ws p OpenEnd e ≡ true → sought_at ws p OpenStart s ≡ true
      → (k : ℕ) → Stop (sought_at ws p (Other (between (key_at ws e 4) (key_at ws e 5) (key_at ws s 2) (key_at ws s 3)))) (count ws) k
      → (b : Bool) → ltb k (count ws) ≡ b → Judged ws t p
  judge_other e s o u k n true l = record { case = NotMended; is = other_unmended ws t p _ _ _ _ (open_end ws p e o) (open_start ws p s u) k (n.here (ltb-true k (count ws) l)) }
  judge_other e s o u k n false l = judge_near e s o u (none_before n (ltb-false k (count ws) l)) (is_near t (key_at ws e 4) (key_at ws s 2)) (is_near t (key_at ws e 5) (key_at ws s 3)) refl refl

  judge_start : (e s : ℕ) → (BalancedIn ws p → ⊥) → sought_at ws p OpenEnd e ≡ true → Stop (sought_at ws p OpenStart) (count ws) s → (b : Bool) → ltb s (count ws) ≡ b → Judged ws t p
  judge_start e s h o n true l =
      let r = search_all (sought_at ws p (Other (between (key_at ws e 4) (key_at ws e 5) (key_at ws s 2) (key_at ws s 3)))) (count ws) in
      judge_other e s o (n.here (ltb-true s (count ws) l)) r.k r.stops (ltb r.k (count ws)) refl
  judge_start e s h o n false l = record { case = NotMended; is = no_gap_unmended ws t p h (no_open_start ws p (none_before n (ltb-false s (count ws) l))) }

  judge_end : (e : ℕ) → (BalancedIn ws p → ⊥) → Stop (sought_at ws p OpenEnd) (count ws) e → (b : Bool) → ltb e (count ws) ≡ b → Judged ws t p
  judge_end e h n true l =
      let r = search_all (sought_at ws p OpenStart) (count ws) in
      judge_start e r.k h (n.here (ltb-true e (count ws) l)) r.stops (ltb r.k (count ws)) refl
  judge_end e h n false l = record { case = NotMended; is = no_gap_unmended ws t p h (no_open_end ws p (none_before n (ltb-false e (count ws) l))) }

  judge_path : (k : ℕ) → Stop (sought_at ws p Uneven) (count ws) k → (b : Bool) → ltb k (count ws) ≡ b → Judged ws t p
  unfolding IsCase
  judge_path k n true l =
      let r = search_all (sought_at ws p OpenEnd) (count ws) in
      judge_end r.k (some_uneven ws p k (n.here (ltb-true k (count ws) l))) r.stops (ltb r.k (count ws)) refl
  judge_path k n false l = record { case = Sound; is = none_uneven ws p (none_before n (ltb-false k (count ws) l)) }

  pub judge : Judged ws t p
  judge = let r = search_all (sought_at ws p Uneven) (count ws) in judge_path r.k r.stops (ltb r.k (count ws)) refl
