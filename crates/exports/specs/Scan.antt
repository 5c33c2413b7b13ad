-- The scan as C sees it: numbers in, a number out, and three lists. Definitions only.
use Rattle.std.specs.Prelude.{ℕ, List, [], ◌∷◌}
use Rattle.exports.specs.Out.{told_in}
use Rattle.scene.specs.Tags.{Scan}

-- the first word takes the count, where there is one
abbrev pub first_of : ℕ → List ℕ → List ℕ
first_of count = told_in (count ∷ [])

-- the number returned, and the lists that are lent to be written
pub record Scanned : Type 0 where
  pub number : ℕ
  pub prefixes : List ℕ
  pub out : List ℕ

abbrev pub scanned : ℕ → List ℕ → List ℕ → Scanned
scanned r ws os = record { number = r; prefixes = ws; out = os }

unfoldable pub scanned_of : Scan → List ℕ → Scanned
scanned_of s os = scanned s.number s.words (first_of s.count os)
