-- What importing a text leaves: its items in order, a command drawn when its last number is read, up to the first refusal. Definitions only.
use Rattle.std.specs.Prelude.{Bool, true, false, List, [], ◌∷◌, ◌++◌, ℕ, ◌+◌, eqb, length, Result, Ok, Err}
use Rattle.pattern.specs.Commands.{end, Answer, number_of, Outcome, outcome}
use Rattle.pattern.specs.Meaning.{next}
use Rattle.pattern.specs.declared.pen.Spot.{Spot}
use Rattle.pattern.specs.declared.pen.Pen.{Pen}
use Rattle.svg.specs.declared.steps.Kind.{Kind}
use Rattle.svg.specs.declared.steps.Kind.TheVariants.{Move}
use Rattle.svg.specs.declared.steps.Fault.{Fault}
use Rattle.svg.specs.declared.steps.Fault.TheVariants.{NotInLanguage, TooLong}
use Rattle.svg.specs.Machine.{Accepted as Text, Refused}
use Rattle.svg.specs.declared.reader.Refusal.{Refusal}
use Rattle.svg.specs.declared.reader.Refusal.TheVariants.{Faulty, Undrawn}
use Rattle.svg.specs.declared.reader.Report.{Report}
use Rattle.svg.specs.Language.{pick, arity, behind, symbols, Decimal, letter, number, close}
use Rattle.svg.specs.Machine.{Run, over, said, runs, begun}
use Rattle.svg.specs.Meaning.{home_of, commands_of, origin, all_of}

-- ---- answers

-- no other place assigns these numbers
unfoldable pub fault_number : Fault → ℕ
fault_number NotInLanguage = 60
fault_number TooLong = 61

abbrev pub report : ℕ → ℕ → Report
report n i = record { number = n; at = i }

-- accepted, or why not
abbrev pub Ending : Type 0
Ending = Result (Unit {0}) Refusal

unfoldable pub report_of : Ending → Report
report_of (Ok x) = report 0 0
report_of (Err (Faulty f i)) = report (fault_number f) i
report_of (Err (Undrawn f i)) = report (number_of (Err f)) i

-- how the text ended, the pen, and the lent buffers afterwards
pub record Told : Type 0 where
  pub ending : Ending
  pub pen : Pen
  pub tags : List ℕ
  pub points : List ℕ

abbrev pub told : Ending → Pen → List ℕ → List ℕ → Told
told e pen tags points = record { ending = e; pen = pen; tags = tags; points = points }

-- ---- the import

abbrev pub stop : Ending → Outcome → Told
stop e o = told e o.pen o.tags o.points

-- it goes on where the commands were accepted; `pattern`'s refusal is told at the byte i
abbrev pub on_answer : Answer → Outcome → ℕ → Told → Told
on_answer (Ok x) o i t = t
on_answer (Err f) o i t = stop (Err (Undrawn f i)) o

abbrev pub go_on : Outcome → ℕ → Told → Told
go_on o i t = on_answer o.answer o i t

-- The items of a text that is n bytes long, behind a letter k and the numbers p of a group that is not full. The end of a text of the language is an end.
unfoldable pub import_from : ℕ → Kind → List Decimal → Spot → Bool → Outcome → Run → Told
import_from n k p home shut o (over Text) = go_on (next o end) n (stop (Ok tt) (next o end))
import_from n k p home shut o (over (Refused f i)) = stop (Err (Faulty f i)) o
import_from n k p home shut o (said (letter l) i r) = import_from n l [] home shut o r
import_from n k p home shut o (said close i r) = go_on (next o end) i (import_from n k [] home true (next o end) r)
import_from n k p home shut o (said (number x) i r) =
    pick (eqb (length p + 1) (arity k))
    (let o' = all_of o (commands_of k (p ++ (x ∷ [])) home shut) in go_on o' i (import_from n (behind k) [] (home_of k (p ++ (x ∷ [])) home) false o' r))
    (import_from n k (p ++ (x ∷ [])) home shut o r)

unfoldable pub import_of : List ℕ → Pen → List ℕ → List ℕ → Told
import_of bs pen tags points = import_from (length bs) Move [] origin false (outcome (Ok tt) pen tags points) (runs 0 begun (symbols bs))
