-- A segment by its tag and its words, as the three commands that draw share it: what it leaves is what their definition says. Assumes nothing.
use Rattle.std.specs.Prelude.{ℕ, ◌≡◌, refl, Bool, true, false, cond, List, ◌∷◌, ◌++◌, Ok, Err}
use Rattle.pattern.specs.Commands.{words_of, numbers, Segment, spots, target, tag_of, draw, Ink, behind, start_of, ink_of, place_of, Answer, Outcome, outcome, inked, may_draw, named, command_of}
use Rattle.pattern.specs.declared.pen.Spot.{Spot}
use Rattle.pattern.specs.declared.pen.Open.{Open}
use Rattle.pattern.specs.declared.pen.Open.TheVariants.{Nothing, Moved, Drawing}
use Rattle.pattern.specs.declared.pen.Place.{Place}
use Rattle.pattern.specs.declared.pen.Pen.{Pen}
use Rattle.pattern.specs.declared.pen.Fault.TheVariants.{NoMove, NoRoom, NotFinite}

-- where the pen stands behind a segment
abbrev pub drawn_to : Pen → Spot → Place
drawn_to pen to = record { opened = Drawing; first = pen.place.first; last = to }

-- 22, then 21
unfoldable pub verdict_of : Bool → Bool → Answer
verdict_of false room = Err NotFinite
verdict_of true false = Err NoRoom
verdict_of true true = Ok tt

-- written where what the command names is sound
unfoldable pub soundly : Bool → Pen → Place → Ink → List ℕ → List ℕ → Outcome
soundly sound pen then ink tags points = cond sound (inked pen then ink tags points) (outcome (Err NotFinite) pen tags points)

unfoldable pub drawn_by : Open → Pen → ℕ → List ℕ → Spot → List ℕ → List ℕ → Outcome
drawn_by Nothing pen tag ws to tags points = outcome (Err NoMove) pen tags points
drawn_by Moved pen tag ws to tags points = soundly (numbers ws) pen (drawn_to pen to) (behind tag (pen.place.first.x ∷ pen.place.first.y ∷ ws)) tags points
drawn_by Drawing pen tag ws to tags points = soundly (numbers ws) pen (drawn_to pen to) (behind tag ws) tags points

pub drawn_is : (pen : Pen) (g : Segment) (tags points : List ℕ)
    → drawn_by pen.place.opened pen (tag_of g) (words_of (spots g)) (target g) tags points ≡ command_of pen (draw g) tags points
unfolding command_of drawn_by soundly may_draw named ink_of place_of start_of words_of
drawn_is pen g tags points = go pen.place.opened
  where
    go : (s : Open)
        → drawn_by s pen (tag_of g) (words_of (spots g)) (target g) tags points
        ≡ cond (may_draw s (draw g))
        (cond (numbers (words_of (spots g))) (inked pen (drawn_to pen (target g)) (behind (tag_of g) (words_of (start_of s pen.place.first ++ spots g))) tags points) (outcome (Err NotFinite) pen tags points))
        (outcome (Err NoMove) pen tags points)
    go Nothing = refl
    go Moved = refl
    go Drawing = refl
