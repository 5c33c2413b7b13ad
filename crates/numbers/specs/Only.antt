-- No second answer meets the contract of any public function. Assumes nothing.
use Rattle.std.specs.Prelude.{◌≡◌, ℕ, Bool, ℤ, pos, from_bits, is_nan, to_bits, Float}
use Rattle.std.specs.Float.{binary32}
use Rattle.std.specs.Float.Ieee.{to_signed, to_unsigned, of_int}
use Rattle.laws.specs.Only.{Only, determined}
use Rattle.numbers.specs.declared.whole.Part.{Part}
use Rattle.numbers.specs.Words.{sign_of, signed, abs_of, copysign_of, half_of}
use Rattle.numbers.specs.Select.{min_of, max_of, clamp_of}
use Rattle.numbers.specs.Whole.{floor_of, ceil_of, span_of, part_of}

pub float_of_only : (w : ℕ) → Only (λ (r : Float). r ≡ from_bits binary32 w)
float_of_only w = determined (from_bits binary32 w)

pub word_of_only : (x : Float) → Only (λ (r : ℕ). r ≡ to_bits binary32 x)
word_of_only x = determined (to_bits binary32 x)

pub is_nan_only : (x : Float) → Only (λ (r : Bool). r ≡ is_nan x)
is_nan_only x = determined (is_nan x)

pub is_negative_only : (x : Float) → Only (λ (r : Bool). r ≡ sign_of x)
is_negative_only x = determined (sign_of x)

pub turned_only : (s : Bool) (x : Float) → Only (λ (r : Float). r ≡ signed s x)
turned_only s x = determined (signed s x)

pub abs_only : (x : Float) → Only (λ (r : Float). r ≡ abs_of x)
abs_only x = determined (abs_of x)

pub copysign_only : (x s : Float) → Only (λ (r : Float). r ≡ copysign_of x s)
copysign_only x s = determined (copysign_of x s)

pub half_only : (w : ℕ) → Only (λ (r : Float). r ≡ half_of w)
half_only w = determined (half_of w)

pub min_only : (x y : Float) → Only (λ (r : Float). r ≡ min_of x y)
min_only x y = determined (min_of x y)

pub max_only : (x y : Float) → Only (λ (r : Float). r ≡ max_of x y)
max_only x y = determined (max_of x y)

pub clamp_only : (x lo hi : Float) → Only (λ (r : Float). r ≡ clamp_of x lo hi)
clamp_only x lo hi = determined (clamp_of x lo hi)

pub floor_only : (x : Float) → Only (λ (r : Float). r ≡ floor_of x)
floor_only x = determined (floor_of x)

pub ceil_only : (x : Float) → Only (λ (r : Float). r ≡ ceil_of x)
ceil_only x = determined (ceil_of x)

pub floor_i32_only : (x : Float) → Only (λ (r : ℤ). r ≡ to_signed 31 (floor_of x))
floor_i32_only x = determined (to_signed 31 (floor_of x))

pub ceil_i32_only : (x : Float) → Only (λ (r : ℤ). r ≡ to_signed 31 (ceil_of x))
ceil_i32_only x = determined (to_signed 31 (ceil_of x))

pub span_only : (x : Float) → Only (λ r. r ≡ span_of x)
span_only x = determined (span_of x)

pub to_i32_only : (x : Float) → Only (λ (r : ℤ). r ≡ to_signed 31 x)
to_i32_only x = determined (to_signed 31 x)

pub to_u32_only : (x : Float) → Only (λ (r : ℕ). r ≡ to_unsigned 32 x)
to_u32_only x = determined (to_unsigned 32 x)

pub whole_part_only : (x : Float) → Only (λ (r : Part). r ≡ part_of x)
whole_part_only x = determined (part_of x)

pub from_u32_only : (k : ℕ) → Only (λ (r : Float). r ≡ of_int binary32 (pos k))
from_u32_only k = determined (of_int binary32 (pos k))
