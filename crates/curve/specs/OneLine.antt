-- A side that is one line, told without an angle or a root: its tangents run along the chord but for a slope that is small for the chord's length on the
-- device. That the error is within the tolerance then, and the count of lines 1, is shown in proofs/OneLine.antt (`one_line_side`). Definitions only.
use Rattle.std.specs.Prelude.{Bool, ◌&&◌, cond, Float}
use Rattle.std.specs.Float.{nan}
use Rattle.std.specs.Float.Ieee.{lt, le}
use Rattle.laws.specs.Binary32.{◌⊗◌, ◌⊘◌, dec, whole}
use Rattle.maths.specs.Numbers.{abs_of}
use Rattle.spiral.specs.Util.{sub_of, length_squared_of}
use Rattle.spiral.specs.Straight.{start_over, end_over}
use Rattle.spiral.specs.declared.util.Vec2.{Vec2}
use Rattle.curve.specs.declared.fit.Tip.{Tip}

-- ---- the test
abbrev pub chord_of : Tip → Tip → Vec2
chord_of from to = sub_of to.p from.p

abbrev pub square_of : Tip → Tip → Float
square_of from to = length_squared_of (chord_of from to)

-- what a scale leaves of the chord's square: over 1, 8² or 64², and no number where the scale is beyond these or near zero
unfoldable pub share_of : Float → Float
share_of scale = cond (le scale (whole 1)) (whole 1) (cond (le scale (whole 8)) (dec 15625 6) (cond (le scale (whole 64)) (dec 244140625 12) nan))

unfoldable pub room_of : Float → Float
room_of scale = cond (le (dec 95367431640625 20) scale) (share_of scale) nan

-- how steep a tangent may be: 2 ^ -14, 2 ^ -16, 2 ^ -18 for chords of at most 2 ^ 8, 2 ^ 10, 2 ^ 12 on the device
unfoldable pub steep_of : Float → Float → Float
steep_of room s =
    cond (le s (whole 65536 ⊗ room)) (dec 6103515625 14)
    (cond (le s (whole 1048576 ⊗ room)) (dec 152587890625 16) (cond (le s (whole 16777216 ⊗ room)) (dec 3814697265625 18) nan))

unfoldable pub is_along : Float → Float → Vec2 → Bool
is_along steep s h = lt (whole 0) h.x && (lt (abs_of h.y ⊘ h.x) steep && le h.x s)

unfoldable pub are_along : Float → Float → Vec2 → Vec2 → Vec2 → Bool
are_along steep s c q0 q1 = is_along steep s (start_over q0 c) && is_along steep s (end_over q1 c)

unfoldable pub is_line : Tip → Tip → Float → Float → Bool
is_line from to offset scale =
    let s = square_of from to in
    le (whole 1) s && (le (abs_of offset) (whole 256) && are_along (steep_of (room_of scale) s) s (chord_of from to) from.q to.q)
