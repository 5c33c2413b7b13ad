-- Worked examples, which antt computes from the definitions; those of the scope paper stand in crate `examples`. Floats by their bits. Assumes nothing.
use Rattle.std.specs.Prelude.{◌≡◌, ℕ, true, false, List, [], ◌∷◌, map, pos, negsuc, refl}
use Rattle.std.specs.Float.{nan, inf, fin, binary32}
use Rattle.std.specs.Float.Ieee.{of_bits, to_bits, to_signed, to_unsigned, lt, eq, is_nan, round}
use Rattle.laws.specs.Binary32.{f32}
use Rattle.numbers.specs.Words.{sign_of, half_of, half_fields, half_units}
use Rattle.numbers.specs.Select.{before, min_of, max_of, clamp_of}
use Rattle.numbers.specs.Whole.{whole_of, floor_of, ceil_of}

-- ---- binary16
-- the smallest subnormal and the largest, the smallest normal number and the largest, the zeros, the infinities, two NaNs; and bits above the 16
pub half_ends : map half_of (0x0001 ∷ 0x83ff ∷ 0x0400 ∷ 0x7bff ∷ 0x0000 ∷ 0x8000 ∷ 0x7c00 ∷ 0xfc00 ∷ 0x7c01 ∷ 0xfe00 ∷ 0x30004400 ∷ [])
    ≡ fin false 1 (negsuc 23) ∷ fin true 1023 (negsuc 23) ∷ fin false 1 (negsuc 13) ∷ fin false 2047 (pos 5) ∷ fin false 0 (pos 0) ∷ fin true 0 (pos 0) ∷ inf false ∷ inf true ∷ nan ∷ nan ∷ f32 0x40800000 ∷ []
unfolding half_of half_fields half_units round of_bits
half_ends = refl

-- ---- the zeros: -0 is the smaller, whichever comes first; and clamped to +0 and above it stays
pub zeros : min_of (f32 0) (f32 0x80000000) ∷ min_of (f32 0x80000000) (f32 0) ∷ max_of (f32 0) (f32 0x80000000) ∷ max_of (f32 0x80000000) (f32 0) ∷ clamp_of (f32 0x80000000) (f32 0) (f32 0x3f800000) ∷ []
    ≡ f32 0x80000000 ∷ f32 0x80000000 ∷ f32 0 ∷ f32 0 ∷ f32 0x80000000 ∷ []
unfolding min_of max_of clamp_of before sign_of is_nan lt eq of_bits
zeros = refl

-- ---- whole numbers, at 0.5, -1.5, -0, 8388607.5, -8388607.5, 3000000000, -2147483648, the infinities, a NaN
abbrev some : List ℕ
some = 0x3f000000 ∷ 0xbfc00000 ∷ 0x80000000 ∷ 0x4affffff ∷ 0xcaffffff ∷ 0x4f32d05e ∷ 0xcf000000 ∷ 0x7f800000 ∷ 0xff800000 ∷ 0x7fc00000 ∷ []

pub floors : map (λ b. to_bits binary32 (floor_of (f32 b))) some ≡ 0x00000000 ∷ 0xc0000000 ∷ 0x80000000 ∷ 0x4afffffe ∷ 0xcb000000 ∷ 0x4f32d05e ∷ 0xcf000000 ∷ 0x7f800000 ∷ 0xff800000 ∷ 0x7fc00000 ∷ []
unfolding floor_of whole_of sign_of round of_bits to_bits
floors = refl

pub ceilings : map (λ b. to_bits binary32 (ceil_of (f32 b))) some ≡ 0x3f800000 ∷ 0xbf800000 ∷ 0x80000000 ∷ 0x4b000000 ∷ 0xcafffffe ∷ 0x4f32d05e ∷ 0xcf000000 ∷ 0x7f800000 ∷ 0xff800000 ∷ 0x7fc00000 ∷ []
unfolding ceil_of whole_of sign_of round of_bits to_bits
ceilings = refl

-- as an i32, which saturates
pub floors_signed : map (λ b. to_signed 31 (floor_of (f32 b))) some ≡ pos 0 ∷ negsuc 1 ∷ pos 0 ∷ pos 8388607 ∷ negsuc 8388607 ∷ pos 2147483647 ∷ negsuc 2147483647 ∷ pos 2147483647 ∷ negsuc 2147483647 ∷ pos 0 ∷ []
unfolding floor_of whole_of sign_of round of_bits to_signed
floors_signed = refl

pub ceilings_signed : map (λ b. to_signed 31 (ceil_of (f32 b))) some ≡ pos 1 ∷ negsuc 0 ∷ pos 0 ∷ pos 8388608 ∷ negsuc 8388606 ∷ pos 2147483647 ∷ negsuc 2147483647 ∷ pos 2147483647 ∷ negsuc 2147483647 ∷ pos 0 ∷ []
unfolding ceil_of whole_of sign_of round of_bits to_signed
ceilings_signed = refl

pub ceilings_unsigned : map (λ b. to_unsigned 32 (ceil_of (f32 b))) some ≡ 1 ∷ 0 ∷ 0 ∷ 8388608 ∷ 0 ∷ 3000000000 ∷ 0 ∷ 4294967295 ∷ 0 ∷ 0 ∷ []
unfolding ceil_of whole_of sign_of round of_bits to_unsigned
ceilings_unsigned = refl
