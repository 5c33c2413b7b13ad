-- The operations of binary32, each rounded once, and how its numbers are written: by their decimals, or by their bits. Definitions only.
use Rattle.std.specs.Prelude.{ℕ, ◌^◌, false, Float}
use Rattle.std.specs.Float.{binary32}
use Rattle.std.specs.Float.Ieee.{round, of_bits, add, sub, mul, div}

infixl 6 ◌⊕◌
abbrev pub ◌⊕◌ : Float → Float → Float
x ⊕ y = add binary32 x y

infixl 6 ◌⊖◌
abbrev pub ◌⊖◌ : Float → Float → Float
x ⊖ y = sub binary32 x y

infixl 7 ◌⊗◌
abbrev pub ◌⊗◌ : Float → Float → Float
x ⊗ y = mul binary32 x y

infixl 7 ◌⊘◌
abbrev pub ◌⊘◌ : Float → Float → Float
x ⊘ y = div binary32 x y

-- the value nearest to n / 10 ^ k, ties to even, as a literal is read: `dec 75 4` is the source's 7.5e-3
abbrev pub dec : ℕ → ℕ → Float
dec n k = round binary32 false n (10 ^ k)

abbrev pub whole : ℕ → Float
whole n = dec n 0

abbrev pub f32 : ℕ → Float
f32 n = of_bits binary32 n
