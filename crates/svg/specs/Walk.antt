-- What the functions of `reader` hand each other: byte by byte, with the hand. Definitions only.
use Rattle.std.specs.Prelude.{false, List, [], ◌∷◌, ℕ, ◌+◌, ◌<◌, eqb, Result, Ok, Err}
use Rattle.pattern.specs.Commands.{end, Answer, Outcome, command_of}
use Rattle.pattern.specs.declared.pen.Pen.{Pen}
use Rattle.svg.specs.declared.steps.Kind.TheVariants.{Move}
use Rattle.svg.specs.declared.steps.Symbol.{Symbol}
use Rattle.svg.specs.declared.steps.State.{State}
use Rattle.svg.specs.declared.steps.Step.{Step}
use Rattle.svg.specs.declared.steps.Step.TheVariants.{Go, Lettered, Shut, Bad}
use Rattle.svg.specs.Machine.{Verdict, Accepted as Text, Refused}
use Rattle.svg.specs.declared.hand.Hand.{Hand}
use Rattle.svg.specs.declared.reader.Refusal.{Refusal}
use Rattle.svg.specs.declared.reader.Refusal.TheVariants.{Faulty, Undrawn}
use Rattle.svg.specs.declared.reader.Walk.{Walk}
use Rattle.svg.specs.Language.{pick, arity}
use Rattle.svg.specs.Machine.{begun, moved, ended, finished, number_of as decimalIn, in_number, last}
use Rattle.svg.specs.Machine.{Sound as SoundState}
use Rattle.svg.specs.Meaning.{word_of, origin}
use Rattle.svg.specs.Import.{Ending, Told, told, stop, go_on}
use Rattle.svg.specs.Hands.{six, hand, command_by, lettered, counted, onward, closed}

abbrev pub walk : State → Hand → Walk
walk s h = record { state = s; hand = h }

-- the reader goes on, or the text is refused
abbrev pub Way : Type 0
Way = Result Walk Refusal

-- the reader, the pen, and the buffers that it writes in
pub data Left : Type 0 where
  left : Way → Pen → List ℕ → List ℕ → Left

-- `pattern`'s answer to a command that is over at the byte i
abbrev pub drawn_at : Answer → ℕ → Ending
drawn_at (Ok x) i = Ok tt
drawn_at (Err f) i = Err (Undrawn f i)

abbrev pub way_of : Answer → ℕ → State → Hand → Way
way_of (Ok x) i s h = Ok (walk s h)
way_of (Err f) i s h = Err (Undrawn f i)

abbrev pub settled : Outcome → ℕ → State → Hand → Left
settled o i s h = left (way_of o.answer i s h) o.pen o.tags o.points

abbrev pub number_with : Hand → State → Pen → ℕ → List ℕ → List ℕ → Left
number_with h s pen i tags points =
    pick (eqb h.have (arity h.kind)) (settled (command_by h pen tags points) i s (onward h)) (left (Ok (walk s h)) pen tags points)

abbrev pub number_by : Walk → ℕ → Pen → List ℕ → List ℕ → Left
number_by w i pen tags points = number_with (counted w.hand (word_of (decimalIn w.state.num))) (finished w.state) pen i tags points

abbrev pub act_by : Hand → Pen → ℕ → Step → List ℕ → List ℕ → Left
act_by h pen i (Go s) tags points = left (Ok (walk s h)) pen tags points
act_by h pen i (Lettered s) tags points = left (Ok (walk s (lettered h s.kind))) pen tags points
act_by h pen i (Shut s) tags points = settled (command_of pen end tags points) i s (closed h)
act_by h pen i (Bad f j) tags points = left (Err (Faulty f j)) pen tags points

abbrev pub step_by : Walk → ℕ → Symbol → Pen → List ℕ → List ℕ → Left
step_by w i y pen tags points = act_by w.hand pen i (moved w.state i y) tags points

abbrev pub then_step : Left → ℕ → Symbol → Left
then_step (left (Ok v) pen tags points) i y = step_by v i y pen tags points
then_step (left (Err r) pen tags points) i y = left (Err r) pen tags points

abbrev pub one_by : Walk → ℕ → Symbol → Pen → List ℕ → List ℕ → Left
one_by w i y pen tags points = pick (ended w.state.place y) (then_step (number_by w i pen tags points) i y) (step_by w i y pen tags points)

-- ---- the end of the text, which is i bytes long

abbrev pub ending_of : Outcome → ℕ → Told
ending_of o i = go_on o i (stop (Ok tt) o)

abbrev pub ended_by : Pen → ℕ → List ℕ → List ℕ → Told
ended_by pen i tags points = ending_of (command_of pen end tags points) i

abbrev pub over_with : Verdict → Pen → ℕ → List ℕ → List ℕ → Told
over_with Text pen i tags points = ended_by pen i tags points
over_with (Refused f j) pen i tags points = told (Err (Faulty f j)) pen tags points

abbrev pub over_by : Walk → ℕ → Pen → List ℕ → List ℕ → Told
over_by w i pen tags points = over_with (last w.state.place w.state.have i) pen i tags points

abbrev pub then_over : Left → ℕ → Told
then_over (left (Ok v) pen tags points) i = over_by v i pen tags points
then_over (left (Err r) pen tags points) i = told (Err r) pen tags points

abbrev pub last_by : Walk → ℕ → Pen → List ℕ → List ℕ → Told
last_by w i pen tags points = pick (in_number w.state.place) (then_over (number_by w i pen tags points) i) (over_by w i pen tags points)

-- ---- the whole

abbrev pub one_more : Left → ℕ → Symbol → Left
one_more (left (Ok w) pen tags points) i y = one_by w i y pen tags points
one_more (left (Err r) pen tags points) i y = left (Err r) pen tags points

abbrev pub last_one : Left → ℕ → Told
last_one (left (Ok w) pen tags points) i = last_by w i pen tags points
last_one (left (Err r) pen tags points) i = told (Err r) pen tags points

unfoldable pub read_into : ℕ → Left → List Symbol → Told
read_into i l [] = last_one l i
read_into i l (y ∷ ys) = read_into (i + 1) (one_more l i y) ys

abbrev pub beginning : Walk
beginning = walk begun (hand Move 0 (six 0 0 0 0 0 0) origin false)

-- what holds of the reader on its way
pub record Sound (w : Walk) : Type 0 where
  pub state : SoundState w.state
  pub hand : w.hand.have < arity w.hand.kind
