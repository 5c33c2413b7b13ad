-- Worked values, by their patterns, which antt computes from the definitions. A NaN is 0x7fc00000 here. Assumes nothing.
use Rattle.std.specs.Prelude.{◌≡◌, ℕ, refl, Float}
use Rattle.std.specs.Float.{binary32}
use Rattle.std.specs.Float.Ieee.{of_bits}
use Rattle.roots.specs.Root.{sqrt_of, cbrt_of, two_thirds_of, hypot_of}

-- f of the f32 with the pattern a is that with the pattern r
abbrev pub Gives : (Float → Float) → ℕ → ℕ → Type 0
Gives f a r = f (of_bits binary32 a) ≡ of_bits binary32 r

-- ---- square roots
pub sqrt_two : Gives sqrt_of 0x40000000 0x3fb504f3
unfolding of_bits sqrt_of
sqrt_two = refl

-- of the least f32, a subnormal
pub sqrt_least : Gives sqrt_of 0x1 0x1a3504f3
unfolding of_bits sqrt_of
sqrt_least = refl

pub sqrt_largest : Gives sqrt_of 0x7f7fffff 0x5f7fffff
unfolding of_bits sqrt_of
sqrt_largest = refl

pub sqrt_minus_zero : Gives sqrt_of 0x80000000 0x80000000
unfolding of_bits sqrt_of
sqrt_minus_zero = refl

pub sqrt_minus_one : Gives sqrt_of 0xbf800000 0x7fc00000
unfolding of_bits sqrt_of
sqrt_minus_one = refl

-- ---- cube roots
pub cbrt_two : Gives cbrt_of 0x40000000 0x3fa14518
unfolding of_bits cbrt_of
cbrt_two = refl

pub cbrt_minus_27 : Gives cbrt_of 0xc1d80000 0xc0400000
unfolding of_bits cbrt_of
cbrt_minus_27 = refl

pub cbrt_least : Gives cbrt_of 0x1 0x26a14518
unfolding of_bits cbrt_of
cbrt_least = refl

-- ---- two-thirds powers
-- the two-thirds power of 8 is 4
pub two_thirds_8 : Gives two_thirds_of 0x41000000 0x40800000
unfolding of_bits two_thirds_of
two_thirds_8 = refl

pub two_thirds_minus_8 : Gives two_thirds_of 0xc1000000 0x7fc00000
unfolding of_bits two_thirds_of
two_thirds_minus_8 = refl

pub two_thirds_minus_zero : Gives two_thirds_of 0x80000000 0x0
unfolding of_bits two_thirds_of
two_thirds_minus_zero = refl

pub two_thirds_largest : Gives two_thirds_of 0x7f7fffff 0x6a214517
unfolding of_bits two_thirds_of
two_thirds_largest = refl

-- ---- hypotenuses
-- the hypotenuse of 3 and 4 is 5
pub hypot_3_4 : Gives (hypot_of (of_bits binary32 0x40400000)) 0x40800000 0x40a00000
unfolding of_bits hypot_of
hypot_3_4 = refl

-- a tie: 14765679 and 8888000 have the root 17234321, halfway between two f32, of which 17234320 is even
pub hypot_tie : Gives (hypot_of (of_bits binary32 0x4b614e6f)) 0x4b079ec0 0x4b837cc8
unfolding of_bits hypot_of
hypot_tie = refl

-- past the largest
pub hypot_largest_twice : Gives (hypot_of (of_bits binary32 0x7f7fffff)) 0x7f7fffff 0x7f800000
unfolding of_bits hypot_of
hypot_largest_twice = refl

-- the least twice, √2 of it, is the least
pub hypot_least : Gives (hypot_of (of_bits binary32 0x1)) 0x1 0x1
unfolding of_bits hypot_of
hypot_least = refl
