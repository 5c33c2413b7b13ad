-- The automaton without its places, as the laws use it: the items and the verdict (`run`), and the verdict alone (`verdict_from`). Definitions only.
use Rattle.std.specs.Prelude.{Bool, true, false, List, [], ◌∷◌, ℕ, ◌+◌}
use Rattle.svg.specs.declared.steps.Fault.{Fault}
use Rattle.svg.specs.declared.steps.Symbol.{Symbol}
use Rattle.svg.specs.declared.steps.Place.TheVariants.{AtGap}
use Rattle.svg.specs.declared.steps.State.{State}
use Rattle.svg.specs.declared.steps.Step.{Step}
use Rattle.svg.specs.declared.steps.Step.TheVariants.{Go, Lettered, Shut, Bad}
use Rattle.svg.specs.Machine.{Verdict, Refused}
use Rattle.svg.specs.Language.{pick, Item, letter, number, close, next}
use Rattle.svg.specs.Machine.{moved, finished, ended, in_number, last, number_of}

-- what was read, and how it ended
pub data Answer : Type 0 where
  answer : List Item → Verdict → Answer

abbrev pub says : Item → Answer → Answer
says i (answer is e) = answer (i ∷ is) e

abbrev pub onward : Step → (State → Answer) → Answer
onward (Go s) f = f s
onward (Lettered s) f = says (letter s.kind) (f s)
onward (Shut s) f = says close (f s)
onward (Bad c i) f = answer [] (Refused c i)

abbrev pub last_of : Bool → State → ℕ → Answer
last_of true s i = answer (number (number_of s.num) ∷ []) (last AtGap (next s.kind s.have) i)
last_of false s i = answer [] (last s.place s.have i)

unfoldable pub run : ℕ → State → List Symbol → Answer
run i s [] = last_of (in_number s.place) s i
run i s (b ∷ bs) =
    pick (ended s.place b)
    (says (number (number_of s.num)) (onward (moved (finished s) i b) (λ t. run (i + 1) t bs)))
    (onward (moved s i b) (λ t. run (i + 1) t bs))

-- ---- the verdict alone, as a fold

-- on the way, or stopped by a fault at a byte
pub data Turn : Type 0 where
  Going : State → Turn
  Stopped : Fault → ℕ → Turn

abbrev pub settle : Step → Turn
settle (Go s) = Going s
settle (Lettered s) = Going s
settle (Shut s) = Going s
settle (Bad c i) = Stopped c i

abbrev pub turn_of : Turn → ℕ → Symbol → Turn
turn_of (Going s) i b = pick (ended s.place b) (settle (moved (finished s) i b)) (settle (moved s i b))
turn_of (Stopped c j) i b = Stopped c j

abbrev pub closing : Turn → ℕ → Verdict
closing (Going s) i = pick (in_number s.place) (last AtGap (next s.kind s.have) i) (last s.place s.have i)
closing (Stopped c j) i = Refused c j

unfoldable pub verdict_from : ℕ → Turn → List Symbol → Verdict
verdict_from i t [] = closing t i
verdict_from i t (b ∷ bs) = verdict_from (i + 1) (turn_of t i b) bs
