-- What the functions of `util` give: points, and transforms of six numbers. Definitions only.
use Rattle.std.specs.Prelude.{Bool, ◌||◌, ◌&&◌, List, [], ◌∷◌, get_or, Float}
use Rattle.std.specs.Float.{nan}
use Rattle.std.specs.Float.Ieee.{neg, is_nan, eq}
use Rattle.laws.specs.Binary32.{◌⊕◌, ◌⊖◌, ◌⊗◌, ◌⊘◌, dec, whole}
use Rattle.maths.specs.Roots.{hypot_of}
use Rattle.maths.specs.Trig.{atan2_of}
use Rattle.spiral.specs.declared.util.Vec2.{Vec2}

abbrev pub robust_epsilon : Float
robust_epsilon = dec 2 7

abbrev pub new_of : Float → Float → Vec2
new_of x y = record { x = x; y = y }

unfoldable pub add_of : Vec2 → Vec2 → Vec2
add_of p q = new_of (p.x ⊕ q.x) (p.y ⊕ q.y)

unfoldable pub sub_of : Vec2 → Vec2 → Vec2
sub_of p q = new_of (p.x ⊖ q.x) (p.y ⊖ q.y)

unfoldable pub mul_of : Vec2 → Float → Vec2
mul_of p k = new_of (p.x ⊗ k) (p.y ⊗ k)

unfoldable pub div_of : Vec2 → Float → Vec2
div_of p k = new_of (p.x ⊘ k) (p.y ⊘ k)

unfoldable pub neg_of : Vec2 → Vec2
neg_of p = new_of (neg p.x) (neg p.y)

unfoldable pub dot_of : Vec2 → Vec2 → Float
dot_of p q = p.x ⊗ q.x ⊕ p.y ⊗ q.y

unfoldable pub length_of : Vec2 → Float
length_of p = hypot_of p.x p.y

unfoldable pub length_squared_of : Vec2 → Float
length_squared_of p = dot_of p p

unfoldable pub mix_of : Vec2 → Vec2 → Float → Vec2
mix_of p q t = new_of (p.x ⊕ (q.x ⊖ p.x) ⊗ t) (p.y ⊕ (q.y ⊖ p.y) ⊗ t)

unfoldable pub normalize_of : Vec2 → Vec2
normalize_of p = div_of p (length_of p)

unfoldable pub angle_of : Vec2 → Float
angle_of p = atan2_of p.y p.x

unfoldable pub has_nan : Vec2 → Bool
has_nan p = is_nan p.x || is_nan p.y

-- equal as numbers: +0 equals -0, and a NaN equals nothing
unfoldable pub eq_of : Vec2 → Vec2 → Bool
eq_of p q = eq p.x q.x && eq p.y q.y

unfoldable pub identity_of : List Float
identity_of = whole 1 ∷ whole 0 ∷ whole 0 ∷ whole 1 ∷ whole 0 ∷ whole 0 ∷ []

-- the six numbers z of a transform at a point
unfoldable pub apply_of : List Float → Vec2 → Vec2
apply_of z p =
    new_of
    (get_or z 0 nan ⊗ p.x ⊕ get_or z 2 nan ⊗ p.y ⊕ get_or z 4 nan)
    (get_or z 1 nan ⊗ p.x ⊕ get_or z 3 nan ⊗ p.y ⊕ get_or z 5 nan)
