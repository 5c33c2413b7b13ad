-- No second answer satisfies the contract of a public function. Assumes nothing.
use Rattle.std.specs.Prelude.{Result, Ok, Err, ℕ, ◌≡◌, List}
use Rattle.std.proofs.Common.{sym, ap, ◌∙◌, true≢false, arith}
use Rattle.laws.specs.Only.{Only, determined}
use Rattle.records.specs.Record.{count, bad_at}
use Rattle.checker.specs.Verdict.{Finite, First, Taken, Answers, told_of as checkTold}
use Rattle.checker.specs.Only.{check_only}
use Rattle.checker.specs.declared.Verdict.{Verdict}
use Rattle.checker.specs.declared.Verdict.TheVariants.{BadNumber as BadIn}
use Rattle.mender.specs.Near.{is_near}
use Rattle.mender.specs.Mend.{IsCase}
use Rattle.mender.specs.Judge.{case_only}
use Rattle.mender.specs.Report.{Counted, Lent, Outcome, Mends, told_of}
use Rattle.checker.specs.declared.CheckError.{CheckError}
use Rattle.checker.specs.declared.CheckError.TheVariants.{TooMany, Leftover}
use Rattle.mender.specs.declared.list.Plan.{Plan}
use Rattle.mender.specs.declared.list.MendError.TheVariants.{NotTaken, BadNumber, NoRoom}

pub near_only : (t a b : ℕ) → Only (λ r. r ≡ is_near t a b)
near_only t a b = determined (is_near t a b)

pub case_of_only : (ws : List ℕ) (t p : ℕ) → Only (IsCase ws t p)
case_of_only ws t p = case_only ws t p

pub from_only : (e : CheckError) → Only (λ r. r ≡ NotTaken e)
from_only e = determined (NotTaken e)

pub told_only : (o : Outcome) → Only (λ r. r ≡ told_of o)
told_only o = determined (told_of o)

not_finite : (ws : List ℕ) {k : ℕ} → First (bad_at ws) (count ws) k → Finite ws → ⊥
not_finite ws {k} a f = true≢false (sym a.here ∙ f k a.within)

same_record : (ws : List ℕ) (k j : ℕ) → Answers ws (Ok (BadIn k)) → Answers ws (Ok (BadIn j)) → k ≡ j
unfolding checkTold
same_record ws k j a b = ap (λ (v : Result Verdict CheckError). (checkTold v).«record») (check_only ws (Ok (BadIn k)) (Ok (BadIn j)) a b)

same_error : (ws : List ℕ) (e f : CheckError) → Answers ws (Err e) → Answers ws (Err f) → e ≡ f
same_error ws e f a b = let z : ◌≡◌ {A = Result Verdict CheckError} (Err e) (Err f) = check_only ws (Err e) (Err f) a b in cc

not_taken_lem : (ws : List ℕ) (e : CheckError) → Answers ws (Err e) → Taken ws → ⊥
unfolding Answers
not_taken_lem ws TooMany a t = omega (arith, a, t.few)
not_taken_lem ws Leftover a t = a.1 t.whole

same_plan : {ws : List ℕ} {t : ℕ} (p q : Plan) → Counted ws t p.paths p.lines → Counted ws t q.paths q.lines → p ≡ q
same_plan p q a b =
    let e : p.paths ≡ q.paths = omega (arith, a.of_paths, b.of_paths) in
    let f : p.lines ≡ q.lines = omega (arith, a.of_lines, b.of_lines) in
    λ i. record { paths = e i; lines = f i }

outcome_only : (ws : List ℕ) (t : ℕ) (l : Lent) (o o' : Outcome) (l' l'' : Lent) → Mends ws t l o l' → Mends ws t l o' l'' → (o ≡ o') × (l' ≡ l'')
unfolding Mends Answers
outcome_only ws t l (Err (NotTaken e)) (Err (NotTaken e')) l' l'' a b = (ap (λ (z : CheckError). Err (NotTaken z)) (same_error ws e e' a.0 b.0), a.1 ∙ sym b.1)
outcome_only ws t l (Err (NotTaken e)) (Err (BadNumber k')) l' l'' a b = absurd (not_taken_lem ws e a.0 b.0.0)
outcome_only ws t l (Err (NotTaken e)) (Err (NoRoom p')) l' l'' a b = absurd (not_taken_lem ws e a.0 b.0)
outcome_only ws t l (Err (NotTaken e)) (Ok p') l' l'' a b = absurd (not_taken_lem ws e a.0 b.0)
outcome_only ws t l (Err (BadNumber k)) (Err (NotTaken e')) l' l'' a b = absurd (not_taken_lem ws e' b.0 a.0.0)
outcome_only ws t l (Err (BadNumber k)) (Err (BadNumber k')) l' l'' a b = (ap (λ (z : ℕ). Err (BadNumber z)) (same_record ws k k' a.0 b.0), a.1 ∙ sym b.1)
outcome_only ws t l (Err (BadNumber k)) (Err (NoRoom p')) l' l'' a b = absurd (not_finite ws a.0.1 b.1)
outcome_only ws t l (Err (BadNumber k)) (Ok p') l' l'' a b = absurd (not_finite ws a.0.1 b.1)
outcome_only ws t l (Err (NoRoom p)) (Err (NotTaken e')) l' l'' a b = absurd (not_taken_lem ws e' b.0 a.0)
outcome_only ws t l (Err (NoRoom p)) (Err (BadNumber k')) l' l'' a b = absurd (not_finite ws b.0.1 a.1)
outcome_only ws t l (Err (NoRoom p)) (Err (NoRoom p')) l' l'' a b = (ap (λ (z : Plan). Err (NoRoom z)) (same_plan p p' a.3 b.3), a.4 ∙ sym b.4)
outcome_only ws t l (Err (NoRoom p)) (Ok p') l' l'' a b = absurd (a.2 b.2)
outcome_only ws t l (Ok p) (Err (NotTaken e')) l' l'' a b = absurd (not_taken_lem ws e' b.0 a.0)
outcome_only ws t l (Ok p) (Err (BadNumber k')) l' l'' a b = absurd (not_finite ws b.0.1 a.1)
outcome_only ws t l (Ok p) (Err (NoRoom p')) l' l'' a b = absurd (b.2 a.2)
outcome_only ws t l (Ok p) (Ok p') l' l'' a b = (ap (λ (z : Plan). Ok z) (same_plan p p' a.3 b.3), a.4 ∙ sym b.4)

-- the answer, and what is left in what was lent
pub mend_only : (ws : List ℕ) (t : ℕ) (l : Lent) → Only (λ (r : Outcome × Lent). Mends ws t l r.0 r.1)
mend_only ws t l r s a b = let e = outcome_only ws t l r.0 s.0 r.1 s.1 a b in λ i. (e.0 i, e.1 i)
