-- What a cap draws. Definitions only.
use Rattle.std.specs.Prelude.{ℕ, Bool, true, false, List, [], ◌∷◌, eqb, Float}
use Rattle.maths.specs.Trig.{pi}
use Rattle.spiral.specs.declared.util.Vec2.{Vec2}
use Rattle.spiral.specs.Util.{add_of}
use Rattle.drawing.specs.Sheet.{Event, line_through}
use Rattle.drawing.specs.Arc.{arc_of}

-- out along the tangent v, back from there, and across
unfoldable pub square_cap : List Float → Vec2 → Vec2 → Vec2 → List Event
square_cap z a b v = line_through z a (add_of a v) ∷ line_through z (add_of b v) b ∷ line_through z (add_of a v) (add_of b v) ∷ []

-- whether it is round, then whether it is square; else butt
unfoldable pub cap_by : Bool → Bool → List Float → Vec2 → Vec2 → Vec2 → Vec2 → List Event
cap_by true square z point a b v = arc_of z a b point pi
cap_by false true z point a b v = square_cap z a b v
cap_by false false z point a b v = line_through z a b ∷ []

unfoldable pub cap_events : ℕ → List Float → Vec2 → Vec2 → Vec2 → Vec2 → List Event
cap_events style = cap_by (eqb style 0x02000000) (eqb style 0x01000000)
