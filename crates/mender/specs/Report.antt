-- The paths of a list in order of first appearance: the lines that are appended, the report, and the answer. Definitions only.
use Rattle.std.specs.Prelude.{Result, Ok, Err, ℕ, zero, suc, ◌*◌, ◌≤◌, ◌≡◌, Bool, true, false, ◌||◌, List, [], ◌++◌, eqb, length}
use Rattle.std.proofs.lemmas.List.Edits.{sets}
use Rattle.records.specs.Record.{record_words, count, path_of}
use Rattle.checker.specs.Verdict.{Finite, Taken, Answers, number_of}
use Rattle.checker.specs.declared.Verdict.TheVariants.{BadNumber as BadIn}
use Rattle.mender.specs.Mend.{line_of}
use Rattle.mender.specs.Judge.{judge}
use Rattle.mender.specs.declared.cases.Case.{Case}
use Rattle.mender.specs.declared.cases.Case.TheVariants.{Sound, Mended, NotMended}
use Rattle.mender.specs.declared.list.Plan.{Plan}
use Rattle.mender.specs.declared.list.MendError.{MendError}
use Rattle.mender.specs.declared.list.MendError.TheVariants.{NotTaken, BadNumber, NoRoom}
use Rattle.mender.specs.declared.list.Told.{Told}

-- ---- one path

-- the one case of a path of which IsCase holds
unfoldable pub case_of : List ℕ → ℕ → ℕ → Case
case_of ws t p = (judge ws t p).case

-- what the report says of it: the path, 0 sound, 1 mended or 2 not mended, and the points of the appended line, or zeros
unfoldable pub said_of : ℕ → Case → List ℕ
said_of p Sound = record_words p 0 0 0 0 0
said_of p (Mended g) = record_words p 1 g.x g.y g.z g.w
said_of p NotMended = record_words p 2 0 0 0 0

-- what is appended
unfoldable pub appended_of : ℕ → Case → List ℕ
appended_of p Sound = []
appended_of p (Mended g) = line_of p g.x g.y g.z g.w
appended_of p NotMended = []

-- ---- all paths, in order of first appearance

-- one of the first k records is of the path
unfoldable pub seen_in : List ℕ → ℕ → ℕ → Bool
seen_in ws p zero = false
seen_in ws p (suc k) = eqb (path_of ws k) p || seen_in ws p k

unfoldable pub unless : Bool → List ℕ → List ℕ
unless true l = []
unless false l = l

-- record k is where its path appears first: what is said there, and appended
unfoldable pub said_at : List ℕ → ℕ → ℕ → List ℕ
said_at ws t k = unless (seen_in ws (path_of ws k) k) (said_of (path_of ws k) (case_of ws t (path_of ws k)))

unfoldable pub appended_at : List ℕ → ℕ → ℕ → List ℕ
appended_at ws t k = unless (seen_in ws (path_of ws k) k) (appended_of (path_of ws k) (case_of ws t (path_of ws k)))

-- of the paths of the first k records
unfoldable pub report_to : List ℕ → ℕ → ℕ → List ℕ
report_to ws t zero = []
report_to ws t (suc k) = report_to ws t k ++ said_at ws t k

unfoldable pub lines_to : List ℕ → ℕ → ℕ → List ℕ
lines_to ws t zero = []
lines_to ws t (suc k) = lines_to ws t k ++ appended_at ws t k

abbrev pub report_of : List ℕ → ℕ → List ℕ
report_of ws t = report_to ws t (count ws)

abbrev pub lines_of : List ℕ → ℕ → List ℕ
lines_of ws t = lines_to ws t (count ws)

-- ---- the answer

-- there is room for the lines and for the report, and there are at most 2,000 records afterwards
pub record Fits (ws : List ℕ) (t : ℕ) (room report : List ℕ) : Type 0 where
  pub lines : length (lines_of ws t) ≤ length room
  pub said : length (report_of ws t) ≤ length report
  pub few : count (ws ++ lines_of ws t) ≤ 2000

-- how many paths are reported, and how many lines appended
pub record Counted (ws : List ℕ) (t paths lines : ℕ) : Type 0 where
  pub of_paths : paths * 6 ≡ length (report_of ws t)
  pub of_lines : lines * 6 ≡ length (lines_of ws t)

-- what is lent, before and after
pub record Lent : Type 0 where
  pub room : List ℕ
  pub report : List ℕ

abbrev pub lent : List ℕ → List ℕ → Lent
lent room report = record { room = room; report = report }

-- the lines and the report stand in front, and the words behind them are as they were
unfoldable pub written_to : List ℕ → ℕ → ℕ → Lent → Lent
written_to ws t k l = lent (sets l.room 0 (lines_to ws t k)) (sets l.report 0 (report_to ws t k))

abbrev pub written : List ℕ → ℕ → Lent → Lent
written ws t l = written_to ws t (count ws) l

abbrev pub Outcome : Type 0
Outcome = Result Plan MendError

-- that an outcome is the answer to a list and a tolerance, and what it leaves; a refusal changes nothing
unfoldable pub Mends : List ℕ → ℕ → Lent → Outcome → Lent → Type 0
Mends ws t before (Err (NotTaken e)) after = Answers ws (Err e) × (after ≡ before)
Mends ws t before (Err (BadNumber k)) after = Answers ws (Ok (BadIn k)) × (after ≡ before)
Mends ws t before (Err (NoRoom p)) after = Taken ws × Finite ws × (Fits ws t before.room before.report → ⊥) × Counted ws t p.paths p.lines × (after ≡ before)
Mends ws t before (Ok p) after = Taken ws × Finite ws × Fits ws t before.room before.report × Counted ws t p.paths p.lines × (after ≡ written ws t before)

-- the outcome in numbers: 0 or the refusal's; the paths and the lines, or the record of the bad number
abbrev pub says : ℕ → ℕ → ℕ → Told
says number first second = record { number = number; first = first; second = second }

abbrev pub error_told : MendError → Told
error_told (NotTaken e) = says (number_of e) 0 0
error_told (BadNumber k) = says 52 k 0
error_told (NoRoom p) = says 53 p.paths p.lines

unfoldable pub told_of : Outcome → Told
told_of (Ok p) = says 0 p.paths p.lines
told_of (Err e) = error_told e
