-- The call as C sees it: numbers in, a number out, and four lists. Definitions only.
use Rattle.std.specs.Prelude.{ℕ, List}
use Rattle.flatten.specs.declared.boxes.PathBox.{PathBox}
use Rattle.flatten.specs.declared.call.Layout.{Layout}
use Rattle.flatten.specs.Call.{Outcome, report_of}

abbrev pub layout_of : ℕ → ℕ → ℕ → ℕ → ℕ → Layout
layout_of n tags points transforms styles =
    record { n_wg = n; tag_base = tags; data_base = points; transform_base = transforms; style_base = styles }

-- the number returned, and the lists that are lent to be written
pub record Reported : Type 0 where
  pub number : ℕ
  pub boxes : List PathBox
  pub lines : List ℕ
  pub out : List ℕ

abbrev pub reported : ℕ → List PathBox → List ℕ → List ℕ → Reported
reported r ps ws os = record { number = r; boxes = ps; lines = ws; out = os }

unfoldable pub reported_of : Outcome → List ℕ → Reported
reported_of o os = reported o.answer.number o.boxes o.lines (report_of o.answer os)
