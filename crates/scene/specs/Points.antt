-- The points that are read are numbers of binary32, and an i16 is exact there. Assumes nothing.
use Rattle.std.specs.Prelude.{◌≡◌, ℕ, Bool, true, false, T, List, from_bits, nat_lt, to_bits}
use Rattle.std.specs.Float.{binary32}
use Rattle.std.specs.Float.Ieee.{fits}
use Rattle.std.specs.Float.Ieee.Bits.{of_bits-fits, of_bits-to_bits}
use Rattle.std.specs.Float.Ieee.Fits.{cond-fits, of_int-fits, neg-fits}
use Rattle.spiral.specs.Points.{FitsPoint}
use Rattle.scene.specs.Reading.{f32_point, i16_of, i16_point, point_at}

pub i16_fits : (h : ℕ) → T (fits binary32 (i16_of h))
unfolding i16_of
i16_fits h = cond-fits binary32 (nat_lt h 0x8000) _ _ (of_int-fits binary32 _) (neg-fits binary32 _ (of_int-fits binary32 _))

pub i16_exact : (h : ℕ) → from_bits binary32 (to_bits binary32 (i16_of h)) ≡ i16_of h
i16_exact h = of_bits-to_bits binary32 (i16_of h) (i16_fits h)

pub point_fits : (w : Bool) (ws : List ℕ) (at : ℕ) → FitsPoint (point_at w ws at)
unfolding point_at f32_point i16_point
point_fits true ws at = (of_bits-fits binary32 _, of_bits-fits binary32 _)
point_fits false ws at = (i16_fits _, i16_fits _)
