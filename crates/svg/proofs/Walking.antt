-- Every byte keeps what holds of the reader on its way. Assumes nothing.
use mathlib.Core.Path.{◌≡◌, refl}
use mathlib.Core.Bool.{Bool, true, false}
use mathlib.Core.List.{List}
use Prim.Native.Nat.{ℕ, ◌≤◌, ◌<◌}
use native.Mathlib.Omega.{arith}
use borrow.Author.Tests.{eqb-false}
use Rattle.std.specs.Prelude.{Ok, Err}
use lib.Dec.{eqb}
use Rattle.pattern.specs.Commands.{end, Answer, command_of}
use Rattle.pattern.specs.declared.pen.Pen.{Pen}
use Rattle.svg.specs.declared.steps.Symbol.{Symbol}
use Rattle.svg.specs.declared.steps.State.{State}
use Rattle.svg.specs.declared.steps.Step.{Step}
use Rattle.svg.specs.declared.steps.Step.TheVariants.{Go, Lettered, Shut, Bad}
use Rattle.svg.specs.declared.hand.Hand.{Hand}
use Rattle.svg.specs.declared.reader.Walk.{Walk}
use Rattle.svg.specs.Language.{pick, arity, behind}
use Rattle.svg.specs.Machine.{moved, ended, finished, number_of, digit_of}
use Rattle.svg.specs.Machine.{Sound as SoundState}
use Rattle.svg.specs.Meaning.{word_of}
use Rattle.svg.specs.Hands.{command_by, counted, onward, closed}
use Rattle.svg.specs.Walk.{walk, Way, Left, left, way_of, settled, number_by, act_by, step_by, then_step, one_by, Sound}
use Rattle.svg.specs.First.{arity_pos}
use Rattle.svg.proofs.Sounds.{SoundStep, finished_sound, moved_sound}

abbrev pub SoundWay : Way → Type 0
SoundWay (Ok w) = Sound w
SoundWay (Err r) = Unit {0}

abbrev pub SoundLeft : Left → Type 0
SoundLeft (left v pen tags points) = SoundWay v

abbrev HandSound : Hand → Type 0
HandSound h = h.have < arity h.kind

way_sound : (a : Answer) (i : ℕ) (s : State) (h : Hand) → Sound (walk s h) → SoundWay (way_of a i s h)
way_sound (Ok x) i s h S = S
way_sound (Err f) i s h S = tt

number_way : (t : Bool) (h : Hand) (s : State) (pen : Pen) (i : ℕ) (tags points : List ℕ) → eqb h.have (arity h.kind) ≡ t → h.have ≤ arity h.kind → SoundState s
    → SoundLeft (pick t (settled (command_by h pen tags points) i s (onward h)) (left (Ok (walk s h)) pen tags points))
number_way true h s pen i tags points e l S = way_sound (command_by h pen tags points).answer i s (onward h) (record { state = S; hand = arity_pos (behind h.kind) })
number_way false h s pen i tags points e l S = let n = eqb-false h.have (arity h.kind) e in record { state = S; hand = omega arith }

pub number_sound : (w : Walk) (i : ℕ) (pen : Pen) (tags points : List ℕ) → Sound w → SoundLeft (number_by w i pen tags points)
number_sound w i pen tags points S =
    let h = counted w.hand (word_of (number_of w.state.num)) in
    number_way (eqb h.have (arity h.kind)) h (finished w.state) pen i tags points refl (let l = S.hand in omega arith) (finished_sound w.state S.state)

act_sound : (h : Hand) (pen : Pen) (i : ℕ) (y : Step) (tags points : List ℕ) → HandSound h → SoundStep y → SoundLeft (act_by h pen i y tags points)
act_sound h pen i (Go s) tags points H S = record { state = S; hand = H }
act_sound h pen i (Lettered s) tags points H S = record { state = S; hand = arity_pos s.kind }
act_sound h pen i (Shut s) tags points H S = way_sound (command_of pen end tags points).answer i s (closed h) (record { state = S; hand = arity_pos h.kind })
act_sound h pen i (Bad f j) tags points H S = tt

step_sound : (w : Walk) (i : ℕ) (y : Symbol) (pen : Pen) (tags points : List ℕ) → Sound w → digit_of y ≤ 9 → SoundLeft (step_by w i y pen tags points)
step_sound w i y pen tags points S d = act_sound w.hand pen i (moved w.state i y) tags points S.hand (moved_sound w.state i y S.state d)

then_sound : (l : Left) (i : ℕ) (y : Symbol) → SoundLeft l → digit_of y ≤ 9 → SoundLeft (then_step l i y)
then_sound (left (Ok v) pen tags points) i y S d = step_sound v i y pen tags points S d
then_sound (left (Err r) pen tags points) i y S d = tt

either_sound : (t : Bool) (a b : Left) → SoundLeft a → SoundLeft b → SoundLeft (pick t a b)
either_sound true a b A B = A
either_sound false a b A B = B

pub one_sound : (w : Walk) (i : ℕ) (y : Symbol) (pen : Pen) (tags points : List ℕ) → Sound w → digit_of y ≤ 9 → SoundLeft (one_by w i y pen tags points)
one_sound w i y pen tags points S d =
    either_sound (ended w.state.place y) _ _
    (then_sound (number_by w i pen tags points) i y (number_sound w i pen tags points S) d)
    (step_sound w i y pen tags points S d)
