-- A sheet moved to f32 points, or back, as C sees it: tags and points in, a number out, and three words. Definitions only.
use Rattle.std.specs.Prelude.{ℕ, List, [], ◌∷◌}
use Rattle.exports.specs.Out.{told_in}
use Rattle.sheets.specs.Written.{Left}

-- three words are written, where there are three
abbrev pub three_of : ℕ → ℕ → ℕ → List ℕ → List ℕ
three_of a b c = told_in (a ∷ b ∷ c ∷ [])

-- the number returned, the lent buffers, and `out`
pub record SheetReport : Type 0 where
  pub number : ℕ
  pub tags : List ℕ
  pub points : List ℕ
  pub out : List ℕ

abbrev pub moved : ℕ → List ℕ → List ℕ → List ℕ → SheetReport
moved number tags points out = record { number = number; tags = tags; points = points; out = out }

-- out: how many tags and point words were written, and the index that a refusal tells
unfoldable pub moved_of : Left → List ℕ → SheetReport
moved_of l out = moved l.told.number l.tag_buffer l.word_buffer (three_of l.told.tags l.told.words l.told.at out)
