-- What path data means: SVG's commands as commands of `pattern`. Definitions only.
use Rattle.std.specs.Prelude.{Bool, true, false, List, [], ◌∷◌, ◌++◌, ℕ, ◌+◌, eqb, get_or}
use Rattle.std.specs.Float.{binary32}
use Rattle.std.specs.Float.Ieee.{to_bits}
use Rattle.pattern.specs.Commands.{line, quad, cubic, Command, move, draw, end, number_of, Outcome}
use Rattle.pattern.specs.Meaning.{next}
use Rattle.pattern.specs.declared.pen.Spot.{Spot}
use Rattle.svg.specs.declared.steps.Kind.{Kind}
use Rattle.svg.specs.declared.steps.Kind.TheVariants.{Move, Line, Quad, Cubic}
use Rattle.svg.specs.Decimal.{decimal_of}
use Rattle.svg.specs.Language.{pick, Decimal, dec, close_path}
use Rattle.svg.specs.Language.{Command as Svg, draw as group}

-- the word of the nearest f32
abbrev pub word_of : Decimal → ℕ
word_of (dec s n k) = to_bits binary32 (decimal_of s n k)

-- the point of the number i of a group and the one behind it
abbrev pub spot_at : List Decimal → ℕ → Spot
spot_at xs i = record { x = word_of (get_or xs i (dec false 0 0)); y = word_of (get_or xs (i + 1) (dec false 0 0)) }

abbrev pub command_of : Kind → List Decimal → Command
command_of Move xs = move (spot_at xs 0)
command_of Line xs = draw (line (spot_at xs 0))
command_of Quad xs = draw (quad (spot_at xs 0) (spot_at xs 2))
command_of Cubic xs = draw (cubic (spot_at xs 0) (spot_at xs 2) (spot_at xs 4))

-- the first point of the subpath: M names it, and the others leave it
abbrev pub home_of : Kind → List Decimal → Spot → Spot
home_of Move xs home = spot_at xs 0
home_of Line xs home = home
home_of Quad xs home = home
home_of Cubic xs home = home

-- behind Z a command other than M starts with a move to that point
abbrev pub restart : Kind → Bool → Spot → List Command
restart Move shut home = []
restart Line shut home = pick shut (move home ∷ []) []
restart Quad shut home = pick shut (move home ∷ []) []
restart Cubic shut home = pick shut (move home ∷ []) []

abbrev pub commands_of : Kind → List Decimal → Spot → Bool → List Command
commands_of k xs home shut = restart k shut home ++ (command_of k xs ∷ [])

-- Z is an end. `home` is the first point of the subpath, and `shut` says that nothing stands between Z and what is to come.
unfoldable pub drawn_from : Spot → Bool → List Svg → List Command
drawn_from home shut [] = []
drawn_from home shut (close_path ∷ cs) = end ∷ drawn_from home true cs
drawn_from home shut (group k xs ∷ cs) = commands_of k xs home shut ++ drawn_from (home_of k xs home) false cs

abbrev pub origin : Spot
origin = record { x = 0; y = 0 }

-- The end of the text is an end. A text begins with M, so that the first point before it is no matter.
unfoldable pub meaning : List Svg → List Command
meaning cs = drawn_from origin false cs ++ (end ∷ [])

-- ---- drawn

-- one after the other, up to the first that is refused
abbrev pub unless_refused : Outcome → Command → Outcome
unless_refused o command = pick (eqb (number_of o.answer) 0) (next o command) o

unfoldable pub all_of : Outcome → List Command → Outcome
all_of o [] = o
all_of o (command ∷ cs) = all_of (unless_refused o command) cs
