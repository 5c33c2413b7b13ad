-- What flatten_euler draws: events, in the source's order. A cubic is cut into ranges by halving, and each range is drawn by lines along a spiral. Definitions only.
use Rattle.std.specs.Prelude.{ℕ, zero, suc, ◌+◌, ◌-◌, ◌*◌, ◌^◌, Bool, true, false, ◌&&◌, cond, get_or, Float}
use mathlib.Core.List.{List, [], ◌∷◌, ◌++◌, flatten}
use Rattle.std.specs.Float.{nan, binary32}
use Rattle.std.specs.Float.Ieee.{round, is_nan, eq, le, to_unsigned}
use Rattle.laws.specs.Binary32.{◌⊕◌, ◌⊖◌, ◌⊗◌, dec, whole}
use Rattle.spiral.specs.Util.{new_of, length_of, eq_of, identity_of, apply_of}
use Rattle.spiral.specs.declared.util.Vec2.{Vec2}
use Rattle.drawing.specs.Sheet.{Event, no_count, line_through}
use Rattle.drawing.specs.Cubic.{point}
use Rattle.curve.specs.Fit.{first_tip, tip_at, params_of, fit_of, place_of}
use Rattle.curve.specs.declared.fit.Tip.{Tip}
use Rattle.curve.specs.declared.fit.Fit.{Fit}
use Rattle.curve.specs.declared.Side.{Side}

-- ---- the lines of one range

-- a line of the side runs forward where the offset is 0 or more, else back
unfoldable pub line_of : Side → Vec2 → Vec2 → Event
line_of s p q = cond (le (whole 0) s.offset) (line_through s.transform p q) (line_through s.transform q p)

-- m lines that end along the spiral, from line i on, and one more to the range's end
unfoldable pub lines_of : Side → Fit → ℕ → ℕ → Vec2 → Vec2 → List Event
lines_of s f zero i at end = line_of s at end ∷ []
lines_of s f (suc m) i at end = line_of s at (place_of f i) ∷ lines_of s f m (i + 1) (place_of f i) end

-- where the number of lines is no number, a stop
unfoldable pub range_of : Side → Fit → Vec2 → Vec2 → List Event
range_of s f at end = cond (is_nan f.n) (no_count ∷ []) (lines_of s f (to_unsigned 32 f.n - 1) 1 at end)

-- the last range ends at the given end, any other on its spiral
unfoldable pub range_end : Side → Fit → Tip → Vec2
range_end s f to = cond (eq to.t (whole 1)) s.end (place_of f (to_unsigned 32 f.n))

-- ---- the walk

-- where the next range starts on the cubic, and where its first line starts
pub record Front : Type 0 where
  pub tip : Tip
  pub at : Vec2

abbrev pub front_of : Tip → Vec2 → Front
front_of tip at = record { tip = tip; at = at }

-- the ranges that were accepted, each with its events, and where the next one starts
pub record Trail : Type 0 where
  pub ranges : List (List Event)
  pub front : Front

-- one trail and then the next, from where the first one ends
unfoldable pub onward : Trail → (Front → Trail) → Trail
onward a f =
    let b = f a.front in
    record { ranges = a.ranges ++ b.ranges; front = b.front }

-- n 65536ths of the curve
abbrev pub part : ℕ → Float
part n = round binary32 false n 65536

-- the end of range u of those that can be halved d more times
unfoldable pub tip_of : Side → ℕ → ℕ → Tip
tip_of s d u = tip_at s.points (part ((u + 1) * 2 ^ d))

-- the spiral is within a tolerance of 1/4
unfoldable pub is_near : Side → Front → Tip → Bool
is_near s f to = le ((params_of f.tip to).err ⊗ s.scale) (dec 25 2)

-- the range from a front to a tip, drawn
unfoldable pub accepted : Side → Front → Tip → Trail
accepted s f to =
    let fit = fit_of s.offset s.scale f.tip.p to.p (params_of f.tip to) in
    let end = range_end s fit to in
    record { ranges = range_of s fit f.at end ∷ []; front = front_of to end }

-- range u with d halvings left: accepted where its spiral is near or no halving is left, else one half and then the other
unfoldable pub walk : Side → ℕ → ℕ → Front → Trail
walk s zero u f = accepted s f (tip_of s zero u)
walk s (suc d) u f =
    elim (is_near s f (tip_of s (suc d) u)) [
      | true ↦ accepted s f (tip_of s (suc d) u)
      | false ↦ onward (walk s d (u * 2) f) (walk s d (u * 2 + 1))
    ]

-- ---- a side

-- the four points are equal as numbers
unfoldable pub is_point : List Vec2 → Bool
is_point ps = eq_of (point ps 0) (point ps 1) && eq_of (point ps 0) (point ps 2) && eq_of (point ps 0) (point ps 3)

-- four equal points draw nothing; else the walk starts with the whole curve, which can be halved 16 times
unfoldable pub side_events : Side → List Event
side_events s =
    cond (is_point s.points) [] (flatten (walk s 16 0 (front_of (first_tip s.points) s.start)).ranges)

-- in device space, where the given ends are not used; the identity is applied to each line all the same
unfoldable pub device_side : List Vec2 → List Float → Float → Side
device_side cubic z offset =
    let p : ℕ → Vec2 = λ i. apply_of z (point cubic i) in
    record { points = p 0 ∷ p 1 ∷ p 2 ∷ p 3 ∷ []; scale = whole 1; transform = identity_of; offset = offset; start = p 0; end = p 3 }

-- in the cubic's own space
unfoldable pub local_side : List Vec2 → List Float → Float → Vec2 → Vec2 → Side
local_side cubic z offset start end =
    let t : ℕ → Float = λ i. get_or z i nan in
    record {
      points = cubic;
      scale = dec 5 1 ⊗ (length_of (new_of (t 0 ⊕ t 3) (t 1 ⊖ t 2)) ⊕ length_of (new_of (t 0 ⊖ t 3) (t 1 ⊕ t 2)));
      transform = z;
      offset = offset;
      start = start;
      end = end;
    }

-- what flatten_euler draws of a cubic under the transform z
unfoldable pub euler_events : List Vec2 → List Float → Float → Vec2 → Vec2 → List Event
euler_events cubic z offset start end =
    side_events (cond (eq offset (whole 0)) (device_side cubic z offset) (local_side cubic z offset start end))
