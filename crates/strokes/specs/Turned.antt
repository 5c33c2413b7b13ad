-- The turned normal of a tangent: turning by a quarter, making it as long as 1 and making it as long as the offset go in any order, bit for bit. A length does not
-- see the turn, and a quotient and a product take the sign of their first operand. Assumes nothing.
use Rattle.std.specs.Prelude.{◌≡◌, Float}
use Rattle.laws.specs.Neg.{div_neg, mul_neg}
use Rattle.maths.specs.Roots.{hypot_turned}
use Rattle.spiral.specs.Util.{mul_of, div_of, length_of, normalize_of}
use Rattle.spiral.specs.declared.util.Vec2.{Vec2}
use Rattle.segment.specs.Segment.{quarter}

pub turned_normal : (v : Vec2) → normalize_of (quarter v) ≡ quarter (normalize_of v)
unfolding normalize_of quarter div_of length_of
turned_normal v = rw (hypot_turned v.x v.y, div_neg)

pub turned_long : (v : Vec2) (k : Float) → quarter (mul_of v k) ≡ mul_of (quarter v) k
unfolding quarter mul_of
turned_long v k = rw mul_neg
