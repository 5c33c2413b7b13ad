-- A refusal is told at a byte from which no text goes on: once the reader has stopped, whatever stands behind, it is no text of the language. Assumes nothing.
use Rattle.std.specs.Prelude.{◌≡◌, refl, false, List, [], ◌∷◌, ◌++◌, ℕ, ◌+◌}
use Rattle.std.proofs.Common.{sym, ap, ◌∙◌, arith}
use Rattle.svg.specs.declared.steps.Fault.{Fault}
use Rattle.svg.specs.declared.steps.Kind.TheVariants.{Move}
use Rattle.svg.specs.declared.steps.Symbol.{Symbol}
use Rattle.svg.specs.Fold.{Turn, Going, Stopped}
use Rattle.svg.specs.Machine.{Verdict, Accepted, Refused}
use Rattle.svg.specs.Language.{Item, Text, symbols, symbol_of}
use Rattle.svg.specs.Machine.{num, begun}
use Rattle.svg.specs.Fold.{verdict_from, turn_of}
use Rattle.svg.specs.Unique.{reads, end_of, verdict_is, verdict_stays}

-- where the automaton stands behind the symbols ys
unfoldable pub after : ℕ → Turn → List Symbol → Turn
after i t [] = t
after i t (y ∷ ys) = after (i + 1) (turn_of t i y) ys

dead : (ys zs : List Symbol) (i : ℕ) (t : Turn) (c : Fault) (j : ℕ) → after i t ys ≡ Stopped c j → verdict_from i t (ys ++ zs) ≡ Refused c j
unfolding after verdict_from
dead [] zs i t c j e = ap (λ (t : Turn). verdict_from i t zs) e ∙ verdict_stays zs i c j
dead (y ∷ ys) zs i t c j e = dead ys zs (i + 1) (turn_of t i y) c j e

pub symbols_append : (bs cs : List ℕ) → symbols (bs ++ cs) ≡ symbols bs ++ symbols cs
unfolding symbols
symbols_append [] cs = refl
symbols_append (b ∷ bs) cs = ap (λ (ys : List Symbol). symbol_of b ∷ ys) (symbols_append bs cs)

zero_one : ◌≡◌ {A = ℕ} 0 1 → ⊥
zero_one z = omega arith

pub never : (v : Verdict) (c : Fault) (j : ℕ) → v ≡ Refused c j → v ≡ Accepted → ⊥
never v c j p q = let z : ◌≡◌ {A = ℕ} 0 1 = cc in zero_one z

pub text_verdict : (bs : List ℕ) (is : List Item) → Text bs is → verdict_from 0 (Going begun) (symbols bs) ≡ Accepted
text_verdict bs is t = sym (verdict_is (symbols bs) 0 begun) ∙ ap end_of (reads t Move 0 (num false 0 0 0 0) 0)

pub no_text_goes_on : (bs cs : List ℕ) (is : List Item) (c : Fault) (j : ℕ) → after 0 (Going begun) (symbols bs) ≡ Stopped c j → Text (bs ++ cs) is → ⊥
no_text_goes_on bs cs is c j e t =
    never (verdict_from 0 (Going begun) (symbols (bs ++ cs))) c j
    (ap (λ (ys : List Symbol). verdict_from 0 (Going begun) ys) (symbols_append bs cs) ∙ dead (symbols bs) (symbols cs) 0 (Going begun) c j e)
    (text_verdict (bs ++ cs) is t)
