-- The whole way, one stage after the other up to the first refusal. Definitions only.
use Rattle.std.specs.Prelude.{ℕ, ◌*◌, cond, List, [], ◌∷◌, ◌++◌, eqb, length, take, drop, Result, Ok, Err}
use Rattle.pattern.specs.Meaning.{fresh_pen}
use Rattle.svg.specs.Import.{import_of, report_of as textReport}
use Rattle.scene.specs.Tags.{scan_of}
use Rattle.profile.specs.Reads.{given}
use Rattle.profile.specs.Verdict.{profile_of, told_of}
use Rattle.flatten.specs.Boxes.{fresh_box}
use Rattle.flatten.specs.Call.{call_of}
use Rattle.flatten.specs.declared.call.Layout.{Layout}
use Rattle.hpgl.specs.Form.{range_of}
use Rattle.hpgl.specs.Export.{export_of, look_of, cut_report}
use Rattle.hpgl.specs.declared.Table.{Table}
use Rattle.cut.specs.Sheet.{Laid, lay_of}
use Rattle.cut.specs.declared.Stage.{Stage}
use Rattle.cut.specs.declared.Stage.TheVariants.{Text, Sheet, Scan, Profile, Flatten, Export}
use Rattle.cut.specs.declared.Refused.{Refused}
use Rattle.cut.specs.declared.Report.{Report}

-- ---- answers

-- how many bytes the file has, or why there is none
abbrev pub Answer : Type 0
Answer = Result ℕ Refused

abbrev pub refusal : Stage → ℕ → ℕ → Refused
refusal stage number at = record { stage = stage; number = number; at = at }

abbrev pub refused : Stage → ℕ → ℕ → Answer
refused stage number at = Err (refusal stage number at)

-- no other place assigns these numbers
unfoldable pub stage_of : Stage → ℕ
stage_of Text = 1
stage_of Sheet = 2
stage_of Scan = 3
stage_of Profile = 4
stage_of Flatten = 5
stage_of Export = 6

-- the scene has no room for the sheet; no other place assigns it
unfoldable pub no_sheet : ℕ
no_sheet = 80

abbrev pub report : ℕ → ℕ → ℕ → ℕ → Report
report number stage at bytes = record { number = number; stage = stage; at = at; bytes = bytes }

unfoldable pub report_of : Answer → Report
report_of (Ok n) = report 0 0 0 n
report_of (Err r) = report r.number (stage_of r.stage) r.at 0

-- ---- 6: the lines of path 0 as a file for the table, written only where a look finds that all of it can be

-- the answer, and the bytes afterwards
pub record Cutting : Type 0 where
  pub answer : Answer
  pub bytes : List ℕ

abbrev pub cutting : Answer → List ℕ → Cutting
cutting a bs = record { answer = a; bytes = bs }

unfoldable pub export_stage : Table → List ℕ → List ℕ → Cutting
export_stage table list bytes =
    let r = cut_report (look_of table 0 (length bytes) list) in
    cond (eqb r.number 0) (cutting (Ok r.stands) ((export_of (range_of table) 0 (length bytes) list).bytes ++ drop r.stands bytes))
    (cutting (refused Export r.number r.at) bytes)

-- ---- 5: flattening, with one box, which is not told; only whole lines go on

-- the answer, and what was lent behind the text's own buffers
pub record Left : Type 0 where
  pub answer : Answer
  pub scene : List ℕ
  pub prefixes : List ℕ
  pub lines : List ℕ
  pub bytes : List ℕ

abbrev pub left : Answer → List ℕ → List ℕ → List ℕ → List ℕ → Left
left a scene prefixes lines bytes = record { answer = a; scene = scene; prefixes = prefixes; lines = lines; bytes = bytes }

unfoldable pub flatten_stage : Layout → Table → List ℕ → List ℕ → List ℕ → List ℕ → Left
flatten_stage layout table scene prefixes lines bytes =
    let o = call_of layout scene prefixes (fresh_box ∷ []) lines in
    let k = export_stage table (take (o.answer.count * 6) o.lines) bytes in
    cond (eqb o.answer.number 0) (left k.answer scene prefixes o.lines k.bytes)
    (left (refused Flatten o.answer.number o.answer.tag) scene prefixes o.lines bytes)

-- ---- 4: the profile for lay-up sheets
unfoldable pub profile_stage : Layout → Table → List ℕ → List ℕ → List ℕ → List ℕ → Left
profile_stage layout table scene prefixes lines bytes =
    let t = told_of (profile_of (given layout scene prefixes)) in
    cond (eqb t.number 0) (flatten_stage layout table scene prefixes lines bytes) (left (refused Profile t.number t.tag) scene prefixes lines bytes)

-- ---- 3: the scan
unfoldable pub scan_stage : Layout → Table → List ℕ → List ℕ → List ℕ → List ℕ → Left
scan_stage layout table scene prefixes lines bytes =
    let s = scan_of scene layout.tag_base prefixes in
    cond (eqb s.number 0) (profile_stage layout table scene s.words lines bytes) (left (refused Scan s.number 0) scene s.words lines bytes)

-- ---- 2: the sheet
unfoldable pub laid_by : Laid → Table → List ℕ → List ℕ → List ℕ → List ℕ → Left
laid_by (Ok layout) table scene prefixes lines bytes = scan_stage layout table scene prefixes lines bytes
laid_by (Err words) table scene prefixes lines bytes = left (refused Sheet no_sheet words) scene prefixes lines bytes

unfoldable pub sheet_stage : List ℕ → List ℕ → List ℕ → Table → List ℕ → List ℕ → List ℕ → List ℕ → Left
sheet_stage drawn points six table scene prefixes lines bytes =
    let l = lay_of drawn points six scene in laid_by l.answer table l.scene prefixes lines bytes

-- ---- 1: the text, drawn with a fresh pen

-- all that was lent, afterwards
pub record Gone : Type 0 where
  pub tags : List ℕ
  pub points : List ℕ
  pub behind : Left

abbrev pub gone : List ℕ → List ℕ → Left → Gone
gone tags points behind = record { tags = tags; points = points; behind = behind }

unfoldable pub cut_of : List ℕ → List ℕ → Table → List ℕ → List ℕ → List ℕ → List ℕ → List ℕ → List ℕ → Gone
cut_of text six table tags points scene prefixes lines bytes =
    let t = import_of text fresh_pen tags points in
    let r = textReport t.ending in
    gone t.tags t.points
    (cond (eqb r.number 0)
    (sheet_stage (take t.pen.tags t.tags) (take t.pen.points t.points) six table scene prefixes lines bytes)
    (left (refused Text r.number r.at) scene prefixes lines bytes))
