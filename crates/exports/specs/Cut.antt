-- Cuts as C sees them: numbers in, a number out, and the lists that are lent to be written. Definitions only.
use Rattle.std.specs.Prelude.{ℕ, List, ℤ, eqb}
use Rattle.hpgl.specs.Export.{Outcome, cut_report}
use Rattle.hpgl.specs.Reading.{Told, back_report}
use Rattle.hpgl.specs.Text.{pick}
use Rattle.hpgl.specs.declared.Table.{Table}
use Rattle.hpgl.specs.declared.Table.TheVariants.{Old, New}
use Rattle.exports.specs.Check.{two_of}

pub record Written : Type 0 where
  pub number : ℕ
  pub bytes : List ℕ
  pub out : List ℕ

abbrev pub written : ℕ → List ℕ → List ℕ → Written
written r bs os = record { number = r; bytes = bs; out = os }

-- told: the bytes that stand, and the record of a refusal
unfoldable pub written_of : Outcome → List ℕ → Written
written_of o os = let t = cut_report o.answer in written t.number o.bytes (two_of t.stands t.at os)

-- which table: 1 is the new one, and any other number the old one, which takes less
unfoldable pub table_of : ℕ → Table
table_of number = pick (eqb number 1) New Old

pub record LinesRead : Type 0 where
  pub number : ℕ
  pub numbers : List ℤ
  pub out : List ℕ

abbrev pub lines_read : ℕ → List ℤ → List ℕ → LinesRead
lines_read r zs os = record { number = r; numbers = zs; out = os }

-- told: the lines that stand, and the position of a refusal
unfoldable pub lines_read_of : Told → List ℕ → LinesRead
lines_read_of o os = let t = back_report o.answer in lines_read t.number o.numbers (two_of t.stands t.at os)
