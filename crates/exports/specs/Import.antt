-- Importing path data as C sees it: a pen of seven words, a number out, and the lists that are lent to be written. Definitions only.
use Rattle.std.specs.Prelude.{ℕ, cond, List, ltb, length, Err}
use Rattle.std.proofs.lemmas.List.Edits.{sets}
use Rattle.pattern.specs.Commands.{number_of}
use Rattle.pattern.specs.declared.pen.Fault.TheVariants.{NoRoom}
use Rattle.svg.specs.Import.{Told, report_of, import_of}
use Rattle.exports.specs.Pen.{pen_read, pen_words}
use Rattle.exports.specs.Scan.{first_of}

-- the number returned, and the lists
pub record Imported : Type 0 where
  pub number : ℕ
  pub pen : List ℕ
  pub tags : List ℕ
  pub points : List ℕ
  pub out : List ℕ

abbrev pub imported : ℕ → List ℕ → List ℕ → List ℕ → List ℕ → Imported
imported r ws tags points os = record { number = r; pen = ws; tags = tags; points = points; out = os }

-- the pen is written at a refusal too, and tells how far it came; the first word of `out` takes the byte
unfoldable pub imported_of : Told → List ℕ → List ℕ → Imported
imported_of t ws os =
    let r = report_of t.ending in imported r.number (sets ws 0 (pen_words t.pen)) t.tags t.points (first_of r.at os)

-- 21, before all else, where the pen's seven words are not lent
unfoldable pub imported_by : List ℕ → List ℕ → List ℕ → List ℕ → List ℕ → Imported
imported_by ws bs tags points os =
    cond (ltb (length ws) 7) (imported (number_of (Err NoRoom)) ws tags points (first_of 0 os)) (imported_of (import_of bs (pen_read ws) tags points) ws os)
