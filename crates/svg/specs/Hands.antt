-- What the functions of `hand` hand each other. Definitions only.
use Rattle.std.specs.Prelude.{Bool, true, false, List, [], ◌∷◌, ℕ, ◌+◌, Ok}
use Rattle.pattern.specs.Commands.{line, quad, cubic, Command, move, draw, Outcome, outcome}
use Rattle.pattern.specs.Commands.{command_of as drawn}
use Rattle.pattern.specs.declared.pen.Spot.{Spot}
use Rattle.pattern.specs.declared.pen.Pen.{Pen}
use Rattle.svg.specs.declared.steps.Kind.{Kind}
use Rattle.svg.specs.declared.steps.Kind.TheVariants.{Move, Line, Quad, Cubic}
use Rattle.svg.specs.declared.hand.Six.{Six}
use Rattle.svg.specs.declared.hand.Hand.{Hand}
use Rattle.svg.specs.Language.{pick, behind}
use Rattle.svg.specs.Meaning.{all_of}

abbrev pub six : ℕ → ℕ → ℕ → ℕ → ℕ → ℕ → Six
six a b c d e f = record { a = a; b = b; c = c; d = d; e = e; f = f }

abbrev pub pushed : Six → ℕ → Six
pushed s w = six s.b s.c s.d s.e s.f w

abbrev pub spot : ℕ → ℕ → Spot
spot x y = record { x = x; y = y }

-- the last two, four or six
abbrev pub six_command : Kind → Six → Command
six_command Move s = move (spot s.e s.f)
six_command Line s = draw (line (spot s.e s.f))
six_command Quad s = draw (quad (spot s.c s.d) (spot s.e s.f))
six_command Cubic s = draw (cubic (spot s.a s.b) (spot s.c s.d) (spot s.e s.f))

abbrev pub drawn_of : Kind → Six → Pen → List ℕ → List ℕ → Outcome
drawn_of k s pen tags points = drawn pen (six_command k s) tags points

abbrev pub restarts_by : Kind → Bool → Bool
restarts_by Move shut = false
restarts_by Line shut = shut
restarts_by Quad shut = shut
restarts_by Cubic shut = shut

abbrev pub hand_commands : Hand → List Command
hand_commands h = pick (restarts_by h.kind h.shut) (move h.home ∷ six_command h.kind h.six ∷ []) (six_command h.kind h.six ∷ [])

unfoldable pub command_by : Hand → Pen → List ℕ → List ℕ → Outcome
command_by h pen tags points = all_of (outcome (Ok tt) pen tags points) (hand_commands h)

abbrev pub home_by : Kind → Six → Spot → Spot
home_by Move s home = spot s.e s.f
home_by Line s home = home
home_by Quad s home = home
home_by Cubic s home = home

abbrev pub hand : Kind → ℕ → Six → Spot → Bool → Hand
hand k n s home shut = record { kind = k; have = n; six = s; home = home; shut = shut }

abbrev pub lettered : Hand → Kind → Hand
lettered h k = hand k 0 h.six h.home h.shut

abbrev pub counted : Hand → ℕ → Hand
counted h w = hand h.kind (h.have + 1) (pushed h.six w) h.home h.shut

abbrev pub onward : Hand → Hand
onward h = hand (behind h.kind) 0 h.six (home_by h.kind h.six h.home) false

abbrev pub closed : Hand → Hand
closed h = hand h.kind 0 h.six h.home true
