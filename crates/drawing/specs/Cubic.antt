-- Points, derivatives and tangents of a cubic, by its four control points. Definitions only.
use Rattle.std.specs.Prelude.{ℕ, Bool, cond, List, get_or, Float}
use Rattle.std.specs.Float.{nan}
use Rattle.std.specs.Float.Ieee.{lt}
use Rattle.laws.specs.Binary32.{◌⊖◌, ◌⊗◌, whole}
use Rattle.spiral.specs.declared.util.Vec2.{Vec2}
use Rattle.spiral.specs.Util.{robust_epsilon, new_of, add_of, sub_of, mul_of, length_squared_of}
use Rattle.drawing.specs.declared.cubic.CubicAt.{CubicAt}

abbrev pub point : List Vec2 → ℕ → Vec2
point ps i = get_or ps i (new_of nan nan)

unfoldable pub cubic_point : List Vec2 → Float → Vec2
cubic_point ps t =
    let m = whole 1 ⊖ t in
    add_of (mul_of (point ps 0) (m ⊗ m ⊗ m))
    (mul_of (add_of (add_of (mul_of (point ps 1) (whole 3 ⊗ (m ⊗ m))) (mul_of (point ps 2) (whole 3 ⊗ (m ⊗ t)))) (mul_of (point ps 3) (t ⊗ t))) t)

-- a third of the derivative, as the source has it
unfoldable pub cubic_deriv : List Vec2 → Float → Vec2
cubic_deriv ps t =
    let m = whole 1 ⊖ t in
    add_of (add_of (mul_of (sub_of (point ps 1) (point ps 0)) (m ⊗ m)) (mul_of (sub_of (point ps 2) (point ps 1)) (whole 2 ⊗ (m ⊗ t))))
    (mul_of (sub_of (point ps 3) (point ps 2)) (t ⊗ t))

unfoldable pub cubic_at : List Vec2 → Float → CubicAt
cubic_at ps t = record { p = cubic_point ps t; q = cubic_deriv ps t }

abbrev is_long : Vec2 → Bool
is_long v = lt robust_epsilon (length_squared_of v)

unfoldable pub first_long : Vec2 → Vec2 → Vec2 → Vec2
first_long a b c = cond (is_long a) a (cond (is_long b) b c)

-- towards the next of the points that differs enough from the first, and from the one before the last
unfoldable pub start_tangent : List Vec2 → Vec2
start_tangent ps = first_long (sub_of (point ps 1) (point ps 0)) (sub_of (point ps 2) (point ps 0)) (sub_of (point ps 3) (point ps 0))

unfoldable pub end_tangent : List Vec2 → Vec2
end_tangent ps = first_long (sub_of (point ps 3) (point ps 2)) (sub_of (point ps 3) (point ps 1)) (sub_of (point ps 3) (point ps 0))
