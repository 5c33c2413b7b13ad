-- What subpaths draw as fills under six words of a transform: their own segments, one behind the other, with no scene and no tags. Definitions only.
use Rattle.std.specs.Prelude.{ℕ, List, [], ◌∷◌, ◌++◌}
use Rattle.spiral.specs.declared.util.Vec2.{Vec2}
use Rattle.drawing.specs.Sheet.{Event}
use Rattle.segment.specs.Segment.{fill_events}
use Rattle.scene.specs.Reading.{line_cubic, quad_cubic, floats_at}
use Rattle.pattern.specs.Commands.{point_of, Segment, line, quad, cubic, target}
use Rattle.pattern.specs.Meaning.{Subpath}
use Rattle.pattern.specs.declared.pen.Spot.{Spot}

-- the segment from p as a cubic: a line and a quad are raised to one as the scene's are
unfoldable pub cubic_from : Spot → Segment → List Vec2
cubic_from p (line q) = line_cubic (point_of p) (point_of q)
cubic_from p (quad q r) = quad_cubic (point_of p) (point_of q) (point_of r)
cubic_from p (cubic q r s) = point_of p ∷ point_of q ∷ point_of r ∷ point_of s ∷ []

-- what it draws as a fill under the six words z
unfoldable pub drawn_by : List ℕ → Spot → Segment → List Event
drawn_by z p g = fill_events (floats_at z 0) (cubic_from p g)

-- segments, each from where the one before ended
unfoldable pub drawn_along : List ℕ → Spot → List Segment → List Event
drawn_along z p [] = []
drawn_along z p (g ∷ gs) = drawn_by z p g ++ drawn_along z (target g) gs

-- subpaths, in order
unfoldable pub flattened : List ℕ → List Subpath → List Event
flattened z [] = []
flattened z (s ∷ ss) = drawn_along z s.start s.segments ++ flattened z ss
