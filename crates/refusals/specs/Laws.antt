-- A number names one refusal, and with 5 the end tells which, so what is told determines what was read. Assumes nothing.
use Rattle.std.specs.Prelude.{ℕ, zero, suc, ◌≡◌, Bool, true, false, cond, refl, Ok, Err, is_ok}
use Rattle.std.proofs.Common.{arith}
use Rattle.laws.specs.Only.{Only, determined}
use Rattle.refusals.specs.Refusals.{number_of, end_of, Read}
use Rattle.refusals.specs.declared.LineEnd.{LineEnd}
use Rattle.refusals.specs.declared.LineEnd.TheVariants.{Start, End}
use Rattle.refusals.specs.declared.Refusal.{Refusal}
use Rattle.refusals.specs.declared.Refusal.TheVariants.{BadBase, Outside, NoPrefix, NoBox, NotNumber, NoRoom, NoJoin, NoCount, BadTransform}

abbrev pub line_end : ℕ → LineEnd
line_end zero = Start
line_end (suc zero) = Start
line_end (suc (suc n)) = End

-- the refusal of a number, and of an end
unfoldable pub named : ℕ → ℕ → Refusal
named zero e = BadBase
named (suc zero) e = BadBase
named (suc (suc zero)) e = Outside
named (suc (suc (suc zero))) e = NoPrefix
named (suc (suc (suc (suc zero)))) e = NoBox
named (suc (suc (suc (suc (suc zero))))) e = NotNumber (line_end e)
named (suc (suc (suc (suc (suc (suc zero)))))) e = NoRoom
named (suc (suc (suc (suc (suc (suc (suc zero))))))) e = NoJoin
named (suc (suc (suc (suc (suc (suc (suc (suc zero)))))))) e = NoCount
named (suc (suc (suc (suc (suc (suc (suc (suc (suc n))))))))) e = BadTransform

pub number_names : (why : Refusal) → named (number_of why) (end_of why) ≡ why
unfolding named number_of end_of
number_names BadBase = refl
number_names Outside = refl
number_names NoPrefix = refl
number_names NoBox = refl
number_names (NotNumber Start) = refl
number_names (NotNumber End) = refl
number_names NoRoom = refl
number_names NoJoin = refl
number_names NoCount = refl
number_names BadTransform = refl

pub number_some : (why : Refusal) → number_of why ≡ 0 → ⊥
unfolding number_of
number_some BadBase e = omega arith
number_some Outside e = omega arith
number_some NoPrefix e = omega arith
number_some NoBox e = omega arith
number_some (NotNumber at) e = omega arith
number_some NoRoom e = omega arith
number_some NoJoin e = omega arith
number_some NoCount e = omega arith
number_some BadTransform e = omega arith

pub number_only : (why : Refusal) → Only (λ r. r ≡ number_of why)
number_only why = determined (number_of why)

pub end_only : (why : Refusal) → Only (λ r. r ≡ end_of why)
end_only why = determined (end_of why)

-- a value that is found only where a test holds
pub found_where : {A : Type 0} (t : Bool) (a b : A) (why : Refusal) → ◌≡◌ {A = Read A} (cond t (Ok a) (Err why)) (Ok b) → (t ≡ true) × (a ≡ b)
found_where true a b why h = (refl, cc)
found_where false a b why h = let z : ◌≡◌ {A = ℕ} 0 1 = cc in absurd (omega arith)

-- what was found
pub found_is : {A : Type 0} (r : Read A) → is_ok r ≡ true → (a : A) × (r ≡ Ok a)
found_is (Ok a) h = (a, refl)
found_is (Err why) h = let z : ◌≡◌ {A = ℕ} 0 1 = cc in absurd (omega arith)
