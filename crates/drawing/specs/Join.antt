-- What a join draws. Definitions only.
use Rattle.std.specs.Prelude.{ℕ, Bool, true, false, ◌||◌, ◌&&◌, cond, List, [], ◌∷◌, ◌++◌, eqb, Float}
use Rattle.std.specs.Int.Bits.{bit_and}
use Rattle.std.specs.Float.Ieee.{lt}
use Rattle.laws.specs.Binary32.{◌⊕◌, ◌⊖◌, ◌⊗◌, ◌⊘◌, whole}
use Rattle.maths.specs.Numbers.{abs_of, half_of}
use Rattle.maths.specs.Roots.{hypot_of}
use Rattle.maths.specs.Trig.{atan2_of}
use Rattle.spiral.specs.Euler.{tangent_thresh}
use Rattle.spiral.specs.declared.util.Vec2.{Vec2}
use Rattle.spiral.specs.Util.{add_of, sub_of, mul_of, dot_of, eq_of}
use Rattle.drawing.specs.declared.join.Corners.{Corners}
use Rattle.drawing.specs.declared.join.Bend.{Bend}
use Rattle.drawing.specs.Sheet.{Event, no_join, line_through}
use Rattle.drawing.specs.Arc.{arc_of}

unfoldable pub cross : Vec2 → Vec2 → Float
cross a b = a.x ⊗ b.y ⊖ a.y ⊗ b.x

-- the ends of the two sides at p, by the normals m before and n after
unfoldable pub corners_of : Vec2 → Vec2 → Vec2 → Corners
corners_of p m n = record { front0 = add_of p m; front1 = add_of p n; back0 = sub_of p n; back1 = sub_of p m }

abbrev sides : List Float → Vec2 → Vec2 → Vec2 → Vec2 → List Event
sides z front0 front1 back0 back1 = line_through z front0 front1 ∷ line_through z back0 back1 ∷ []

abbrev pub both_sides : List Float → Corners → List Event
both_sides z k = sides z k.front0 k.front1 k.back0 k.back1

-- ---- bevel: nothing where one side's corners are equal
unfoldable pub bevel_events : List Float → Corners → List Event
bevel_events z k = cond (eq_of k.front0 k.front1 || eq_of k.back0 k.back1) [] (both_sides z k)

-- ---- miter
unfoldable pub in_limit : Float → Float → Float → Bool
in_limit cr d limit =
    let h = hypot_of cr d in
    lt (whole 2 ⊗ h) ((h ⊕ d) ⊗ limit ⊗ limit) && lt (tangent_thresh ⊗ tangent_thresh) (abs_of cr)

-- where the edges through `last` and `this` meet
unfoldable pub miter_point : Bend → Vec2 → Vec2 → Vec2
miter_point b last this = sub_of this (mul_of b.tan_next (cross b.tan_prev (sub_of this last) ⊘ b.cr))

-- within the limit a line goes to the tip, which takes a corner's place: on the back where the stroke turns that way
unfoldable pub miter_events : List Float → Corners → Bend → Float → List Event
miter_events z k b limit =
    let onBack = miter_point b k.back1 k.back0 in
    let onFront = miter_point b k.front0 k.front1 in
    cond (in_limit b.cr b.d limit)
    (cond (lt (whole 0) b.cr)
    (line_through z k.back0 onBack ∷ sides z k.front0 k.front1 onBack k.back1)
    (line_through z k.front0 onFront ∷ sides z onFront k.front1 k.back0 k.back1))
    (both_sides z k)

-- ---- round: an arc on the outer side, then the other one
unfoldable pub round_by : Bool → List Float → Corners → Vec2 → Float → List Event
round_by true z k p angle = arc_of z k.back0 k.back1 p angle ++ line_through z k.front0 k.front1 ∷ []
round_by false z k p angle = arc_of z k.front0 k.front1 p angle ++ line_through z k.back0 k.back1 ∷ []

unfoldable pub round_events : List Float → Corners → Bend → Vec2 → List Event
round_events z k b p = round_by (lt (whole 0) b.cr) z k p (abs_of (atan2_of b.cr b.d))

-- ---- all joins

-- whether it is bevel, then miter, then round
unfoldable pub join_by : Bool → Bool → Bool → List Float → Corners → Bend → Float → Vec2 → List Event
join_by true miter round z k b limit p = bevel_events z k
join_by false true round z k b limit p = miter_events z k b limit
join_by false false true z k b limit p = round_events z k b p
join_by false false false z k b limit p = no_join ∷ []

-- the style's flags, the point, the tangents and the normals before and after it
unfoldable pub join_events : ℕ → List Float → Vec2 → Vec2 → Vec2 → Vec2 → Vec2 → List Event
join_events flags z p tp tn np nn =
    let bits = bit_and flags 0x30000000 in
    join_by (eqb bits 0) (eqb bits 0x10000000) (eqb bits 0x20000000) z (corners_of p np nn)
    (record { tan_prev = tp; tan_next = tn; cr = cross tp tn; d = dot_of tp tn })
    (half_of flags)
    p
