-- One command: what it writes behind what the pen counts, and when it is refused. Definitions only.
use Rattle.std.specs.Prelude.{ℕ, ◌+◌, ◌-◌, Bool, true, false, ◌&&◌, cond, List, [], ◌∷◌, ◌++◌, leb, eqb, length, get_or, set, Float, Result, Ok, Err}
use Rattle.std.proofs.lemmas.List.Edits.{sets}
use Rattle.std.specs.Float.{binary32}
use Rattle.std.specs.Float.Ieee.{of_bits}
use Rattle.spiral.specs.Util.{new_of, eq_of}
use Rattle.spiral.specs.declared.util.Vec2.{Vec2}
use Rattle.scene.specs.Tags.{bit}
use Rattle.scene.specs.Reading.{all_finite}
use Rattle.pattern.specs.declared.pen.Spot.{Spot}
use Rattle.pattern.specs.declared.pen.Open.{Open}
use Rattle.pattern.specs.declared.pen.Open.TheVariants.{Nothing, Moved, Drawing}
use Rattle.pattern.specs.declared.pen.Place.{Place}
use Rattle.pattern.specs.declared.pen.Pen.{Pen}
use Rattle.pattern.specs.declared.pen.Fault.{Fault}
use Rattle.pattern.specs.declared.pen.Fault.TheVariants.{NoMove, NoRoom, NotFinite}

-- ---- points

-- as numbers
abbrev pub point_of : Spot → Vec2
point_of p = new_of (of_bits binary32 p.x) (of_bits binary32 p.y)

-- equal as numbers: +0 equals -0
unfoldable pub same : Spot → Spot → Bool
same p q = eq_of (point_of p) (point_of q)

unfoldable pub words_of : List Spot → List ℕ
words_of [] = []
words_of (p ∷ ps) = p.x ∷ p.y ∷ words_of ps

unfoldable pub floats_of : List ℕ → List Float
floats_of [] = []
floats_of (w ∷ ws) = of_bits binary32 w ∷ floats_of ws

-- no coordinate is a NaN or an infinity
abbrev pub numbers : List ℕ → Bool
numbers ws = all_finite (floats_of ws)

-- ---- segments and commands

pub data Segment : Type 0 where
  line : Spot → Segment
  quad : Spot → Spot → Segment
  cubic : Spot → Spot → Spot → Segment

-- the points behind its start
unfoldable pub spots : Segment → List Spot
spots (line p) = p ∷ []
spots (quad p q) = p ∷ q ∷ []
spots (cubic p q r) = p ∷ q ∷ r ∷ []

-- where it ends
unfoldable pub target : Segment → Spot
target (line p) = p
target (quad p q) = q
target (cubic p q r) = r

-- its tag byte: f32 points, and the type, which says how many
unfoldable pub tag_of : Segment → ℕ
tag_of g = 0x08 + length (spots g)

pub data Command : Type 0 where
  move : Spot → Command
  draw : Segment → Command
  end : Command

-- ---- what is written

-- nothing; the end bit on the last tag; or a tag and its point words
pub data Ink : Type 0 where
  none : Ink
  end_bit : Ink
  behind : (tag : ℕ) (points : List ℕ) → Ink

-- what finishes the open subpath: where its last point differs from its first, a line to the first point's words, with the end bit
unfoldable pub finishing : Open → Bool → Spot → Ink
finishing Nothing closed first = none
finishing Moved closed first = none
finishing Drawing true first = end_bit
finishing Drawing false first = behind 0x0d (words_of (first ∷ []))

-- the start of a subpath is written with its first segment
unfoldable pub start_of : Open → Spot → List Spot
start_of Nothing first = []
start_of Moved first = first ∷ []
start_of Drawing first = []

unfoldable pub ink_of : Place → Command → Ink
ink_of s (move p) = finishing s.opened (same s.last s.first) s.first
ink_of s (draw g) = behind (tag_of g) (words_of (start_of s.opened s.first ++ spots g))
ink_of s end = finishing s.opened (same s.last s.first) s.first

-- where the pen stands then; an end keeps the points
unfoldable pub place_of : Place → Command → Place
place_of s (move p) = record { opened = Moved; first = p; last = p }
place_of s (draw g) = record { opened = Drawing; first = s.first; last = target g }
place_of s end = record { opened = Nothing; first = s.first; last = s.last }

-- a tag with its end bit set
unfoldable pub ended : ℕ → ℕ
ended tag = cond (eqb (bit tag 0x04) 1) tag (tag + 0x04)

-- whether there is room for it behind what the pen counts; the last tag is one of those lent
unfoldable pub fits : Pen → Ink → List ℕ → List ℕ → Bool
fits pen none tags points = true
fits pen end_bit tags points = leb 1 pen.tags && leb pen.tags (length tags)
fits pen (behind tag ws) tags points = leb (pen.tags + 1) (length tags) && leb (pen.points + length ws) (length points)

-- ---- answers

-- accepted, or why not
abbrev pub Answer : Type 0
Answer = Result (Unit {0}) Fault

-- no other place assigns these numbers
unfoldable pub number_of : Answer → ℕ
number_of (Ok x) = 0
number_of (Err NoMove) = 20
number_of (Err NoRoom) = 21
number_of (Err NotFinite) = 22

-- the answer, the pen, and the lent buffers afterwards
pub record Outcome : Type 0 where
  pub answer : Answer
  pub pen : Pen
  pub tags : List ℕ
  pub points : List ℕ

abbrev pub outcome : Answer → Pen → List ℕ → List ℕ → Outcome
outcome answer pen tags points = record { answer = answer; pen = pen; tags = tags; points = points }

-- what the code leaves: an accepted command's pen, and after a refusal the pen that it was given
abbrev pub told : Result Pen Fault → Pen → List ℕ → List ℕ → Outcome
told (Ok then) pen tags points = outcome (Ok tt) then tags points
told (Err fault) pen tags points = outcome (Err fault) pen tags points

abbrev pub counted : Place → ℕ → ℕ → Pen
counted s tags points = record { place = s; tags = tags; points = points }

-- written, the pen at its new place
unfoldable pub written : Pen → Place → Ink → List ℕ → List ℕ → Outcome
written pen then none tags points = outcome (Ok tt) (counted then pen.tags pen.points) tags points
written pen then end_bit tags points =
    outcome (Ok tt) (counted then pen.tags pen.points) (set tags (pen.tags - 1) (ended (get_or tags (pen.tags - 1) 0))) points
written pen then (behind tag ws) tags points =
    outcome (Ok tt) (counted then (pen.tags + 1) (pen.points + length ws)) (set tags pen.tags tag) (sets points pen.points ws)

-- 21 where there is no room
unfoldable pub inked : Pen → Place → Ink → List ℕ → List ℕ → Outcome
inked pen then ink tags points = cond (fits pen ink tags points) (written pen then ink tags points) (outcome (Err NoRoom) pen tags points)

-- ---- one command

-- 20: a segment with nothing open
unfoldable pub may_draw : Open → Command → Bool
may_draw Nothing (move p) = true
may_draw Nothing (draw g) = false
may_draw Nothing end = true
may_draw Moved command = true
may_draw Drawing command = true

-- the coordinates that it names
unfoldable pub named : Command → List ℕ
named (move p) = words_of (p ∷ [])
named (draw g) = words_of (spots g)
named end = []

-- 20, then 22, then 21; a refusal gives the pen back and changes no word
unfoldable pub command_of : Pen → Command → List ℕ → List ℕ → Outcome
command_of pen command tags points =
    cond (may_draw pen.place.opened command)
    (cond (numbers (named command))
    (inked pen (place_of pen.place command) (ink_of pen.place command) tags points)
    (outcome (Err NotFinite) pen tags points))
    (outcome (Err NoMove) pen tags points)
