-- The whole number nearest to a float, ties to even. Definitions only.
use Rattle.std.specs.Prelude.{Bool, false, ◌&&◌, ℕ, suc, ◌*◌, ℤ, pos, negsuc, T, leb, Float}
use Rattle.std.specs.Float.{nan, inf, fin, binary32}
use Rattle.std.specs.Float.Ieee.{up, down, of_bits}
use Rattle.std.specs.Float.Ieee.Nearest.{closest}
use Rattle.hpgl.specs.Text.{signed_of}
use Rattle.hpgl.specs.Form.{Range}
use Rattle.hpgl.specs.declared.Point.{Point}

-- a float as a whole number, from its exact value in one step; 0 for one that is not finite
unfoldable pub rounded_of : Float → ℤ
rounded_of nan = pos 0
rounded_of (inf s) = pos 0
rounded_of (fin s m e) = signed_of s (closest (m * up e) (down e))

unfoldable pub is_within : Range → ℤ → Bool
is_within r (pos n) = leb n r.above
is_within r (negsuc n) = leb (suc n) r.below

-- a finite float that, rounded, is in range
unfoldable pub is_good : Range → Float → Bool
is_good r nan = false
is_good r (inf s) = false
is_good r (fin s m e) = is_within r (rounded_of (fin s m e))

-- two words that a range takes: both are such floats
abbrev pub Taken : Range → ℕ → ℕ → Type 0
Taken r x y = T (is_good r (of_bits binary32 x) && is_good r (of_bits binary32 y))

-- the point of two words
unfoldable pub point_of : ℕ → ℕ → Point
point_of x y = record { x = rounded_of (of_bits binary32 x); y = rounded_of (of_bits binary32 y) }
