-- The smaller and the larger of two floats, as IEEE 754-2019's minimumNumber and maximumNumber, and a float brought into a range. Definitions only.
use Rattle.std.specs.Prelude.{Bool, cond, ◌&&◌, ◌||◌, is_nan, Float}
use Rattle.std.specs.Float.Ieee.{lt, eq}
use Rattle.numbers.specs.Words.{sign_of}

-- x is below y, or equal to it and negative: so -0 stands before +0
unfoldable pub before : Float → Float → Bool
before x y = lt x y || (eq x y && sign_of x)

-- a NaN gives way to the other
unfoldable pub min_of : Float → Float → Float
min_of x y = cond (is_nan x) y (cond (is_nan y) x (cond (before x y) x y))

unfoldable pub max_of : Float → Float → Float
max_of x y = cond (is_nan x) y (cond (is_nan y) x (cond (before x y) y x))

-- lo if x is below it, else hi if x is above it, else x. A NaN is neither
unfoldable pub clamp_of : Float → Float → Float → Float
clamp_of x lo hi = cond (lt x lo) lo (cond (lt hi x) hi x)
