-- The check of a list as C sees it: a list in, a number out, and two words. Definitions only.
use Rattle.std.specs.Prelude.{Result, ℕ, ◌≡◌, List, [], ◌∷◌}
use Rattle.exports.specs.Out.{told_in}
use Rattle.checker.specs.Verdict.{Answers, told_of}
use Rattle.checker.specs.declared.CheckError.{CheckError}
use Rattle.checker.specs.declared.Verdict.{Verdict}

-- two words are written, where there are two
abbrev pub two_of : ℕ → ℕ → List ℕ → List ℕ
two_of a b = told_in (a ∷ b ∷ [])

-- the number returned, and `out` before and after
pub record Checked (list before : List ℕ) (number : ℕ) (after : List ℕ) : Type 0 where
  pub verdict : Result Verdict CheckError
  pub answers : Answers list verdict
  pub returned : number ≡ (told_of verdict).number
  pub written : after ≡ two_of (told_of verdict).verdict (told_of verdict).«record» before
