-- What an arc draws: chords of one turn each, from its begin to its given end. Definitions only.
use Rattle.std.specs.Prelude.{ℕ, zero, suc, ◌-◌, max, List, [], ◌∷◌, Float}
use Rattle.std.specs.Float.Ieee.{neg, to_unsigned}
use Rattle.laws.specs.Binary32.{◌⊖◌, ◌⊗◌, ◌⊘◌, dec, whole}
use Rattle.maths.specs.Numbers.{max_of, ceil_of}
use Rattle.maths.specs.Trig.{sin_of, cos_of, acos_of}
use Rattle.spiral.specs.declared.util.Vec2.{Vec2}
use Rattle.spiral.specs.Util.{add_of, sub_of, length_of, apply_of}
use Rattle.drawing.specs.Sheet.{Event, line}

abbrev pub tolerance : Float
tolerance = dec 25 2

abbrev pub min_theta : Float
min_theta = dec 1 4

-- in device space
unfoldable pub arc_radius : List Float → Vec2 → Vec2 → Float
arc_radius z from center = max_of tolerance (length_of (sub_of (apply_of z from) (apply_of z center)))

-- the turn whose chord stays within the tolerance of the arc
unfoldable pub arc_step : Float → Float
arc_step radius = max_of (whole 2 ⊗ acos_of (whole 1 ⊖ tolerance ⊘ radius)) min_theta

-- how many chords; one at least
unfoldable pub arc_count : Float → Float → ℕ
arc_count angle theta = max (to_unsigned 32 (ceil_of (angle ⊘ theta))) 1

-- the rotation by theta, as the six numbers of a transform
unfoldable pub arc_turn : Float → List Float
arc_turn theta = cos_of theta ∷ neg (sin_of theta) ∷ sin_of theta ∷ cos_of theta ∷ whole 0 ∷ whole 0 ∷ []

-- from the device point p: k chords to where the arm r turns about the center, and one to the end
unfoldable pub chords : ℕ → List Float → List Float → Vec2 → Vec2 → Vec2 → Vec2 → List Event
chords zero rot z center end p r = line p (apply_of z end) ∷ []
chords (suc k) rot z center end p r =
    let r' = apply_of rot r in
    let q = apply_of z (add_of center r') in
    line p q ∷ chords k rot z center end q r'

unfoldable pub arc_of : List Float → Vec2 → Vec2 → Vec2 → Float → List Event
arc_of z from to center angle =
    let theta = arc_step (arc_radius z from center) in
    chords (arc_count angle theta - 1) (arc_turn theta) z center to (apply_of z from) (sub_of from center)
