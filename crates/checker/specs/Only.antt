-- No second answer satisfies the contract of a public function. Assumes nothing.
use Rattle.std.specs.Prelude.{Result, Ok, Err, ℕ, ◌<◌, ◌≡◌, refl, Bool, false, List}
use Rattle.std.proofs.Common.{sym, ap, ◌∙◌, true≢false, arith}
use Rattle.laws.specs.Only.{Only, determined}
use Rattle.records.specs.Record.{count}
use Rattle.checker.specs.Verdict.{SoundList, uneven_at, First, Answers, number_of, told_of}
use Rattle.checker.specs.Laws.{balanced_even}
use Rattle.checker.specs.declared.Verdict.{Verdict}
use Rattle.checker.specs.declared.Verdict.TheVariants.{Sound, BadNumber, Unbalanced}
use Rattle.checker.specs.declared.CheckError.{CheckError}
use Rattle.checker.specs.declared.CheckError.TheVariants.{TooMany, Leftover}

-- a record of which f holds, where it holds of none
never : {f : ℕ → Bool} {n k : ℕ} → ((j : ℕ) → j < n → f j ≡ false) → First f n k → ⊥
never {f} {n} {k} h a = true≢false (sym a.here ∙ h k a.within)

not_before : {f : ℕ → Bool} {n k j : ℕ} → First f n k → First f n j → k < j → ⊥
not_before {f} {n} {k} {j} a b l = true≢false (sym a.here ∙ b.none k l)

one_first : {f : ℕ → Bool} {n k j : ℕ} → First f n k → First f n j → k ≡ j
one_first {f} {n} {k} {j} a b = omega (arith, not_before a b, not_before b a)

even : (ws : List ℕ) → SoundList ws → (k : ℕ) → k < count ws → uneven_at ws k ≡ false
even ws s = balanced_even ws s.balanced

pub check_only : (ws : List ℕ) → Only (Answers ws)
unfolding Answers
check_only ws (Ok Sound) (Ok Sound) a b = refl
check_only ws (Ok Sound) (Ok (BadNumber k)) a b = absurd (never a.1.finite b.1)
check_only ws (Ok Sound) (Ok (Unbalanced k)) a b = absurd (never (even ws a.1) b.2)
check_only ws (Ok Sound) (Err TooMany) a b = absurd (let f = a.0.few in omega arith)
check_only ws (Ok Sound) (Err Leftover) a b = absurd (b.1 a.0.whole)
check_only ws (Ok (BadNumber k)) (Ok Sound) a b = absurd (never b.1.finite a.1)
check_only ws (Ok (BadNumber k)) (Ok (BadNumber j)) a b = ap (λ (k : ℕ). Ok (BadNumber k)) (one_first a.1 b.1)
check_only ws (Ok (BadNumber k)) (Ok (Unbalanced j)) a b = absurd (never b.1 a.1)
check_only ws (Ok (BadNumber k)) (Err TooMany) a b = absurd (let f = a.0.few in omega arith)
check_only ws (Ok (BadNumber k)) (Err Leftover) a b = absurd (b.1 a.0.whole)
check_only ws (Ok (Unbalanced k)) (Ok Sound) a b = absurd (never (even ws b.1) a.2)
check_only ws (Ok (Unbalanced k)) (Ok (BadNumber j)) a b = absurd (never a.1 b.1)
check_only ws (Ok (Unbalanced k)) (Ok (Unbalanced j)) a b = ap (λ (k : ℕ). Ok (Unbalanced k)) (one_first a.2 b.2)
check_only ws (Ok (Unbalanced k)) (Err TooMany) a b = absurd (let f = a.0.few in omega arith)
check_only ws (Ok (Unbalanced k)) (Err Leftover) a b = absurd (b.1 a.0.whole)
check_only ws (Err TooMany) (Ok Sound) a b = absurd (let f = b.0.few in omega arith)
check_only ws (Err TooMany) (Ok (BadNumber j)) a b = absurd (let f = b.0.few in omega arith)
check_only ws (Err TooMany) (Ok (Unbalanced j)) a b = absurd (let f = b.0.few in omega arith)
check_only ws (Err TooMany) (Err TooMany) a b = refl
check_only ws (Err TooMany) (Err Leftover) a b = absurd (let f = b.0 in omega arith)
check_only ws (Err Leftover) (Ok Sound) a b = absurd (a.1 b.0.whole)
check_only ws (Err Leftover) (Ok (BadNumber j)) a b = absurd (a.1 b.0.whole)
check_only ws (Err Leftover) (Ok (Unbalanced j)) a b = absurd (a.1 b.0.whole)
check_only ws (Err Leftover) (Err TooMany) a b = absurd (let f = a.0 in omega arith)
check_only ws (Err Leftover) (Err Leftover) a b = refl

pub number_only : (e : CheckError) → Only (λ r. r ≡ number_of e)
number_only e = determined (number_of e)

pub told_only : (v : Result Verdict CheckError) → Only (λ r. r ≡ told_of v)
told_only v = determined (told_of v)
