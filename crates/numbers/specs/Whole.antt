-- The whole numbers next to a float. `round` rounds nothing there: see specs/WholeLaws.antt. The conversions are lib.Ieee's `to_signed 31`, `to_unsigned 32` and `of_int binary32`. Definitions only.
use Rattle.std.specs.Prelude.{ℕ, ◌+◌, ◌-◌, ◌*◌, ◌/◌, Bool, cond, not, List, [], ◌∷◌, ℤ, pos, Float}
use Rattle.std.specs.Float.{nan, inf, fin, binary32}
use Rattle.std.specs.Float.Ieee.{up, down, round, of_int, to_signed, to_unsigned}
use Rattle.numbers.specs.declared.whole.Part.{Part}
use Rattle.numbers.specs.Words.{sign_of}

-- a / b as a whole number, rounded up where u is true, else down; b is above 0
abbrev pub quot : Bool → ℕ → ℕ → ℕ
quot u a b = cond u ((a + (b - 1)) / b) (a / b)

-- x as a whole number: away from zero where u is true, else towards it. The sign stays, also of a result that is zero
unfoldable pub whole_of : Bool → Float → Float
whole_of u nan = nan
whole_of u (inf s) = inf s
whole_of u (fin s m e) = round binary32 s (quot u (m * up e) (down e)) 1

unfoldable pub floor_of : Float → Float
floor_of x = whole_of (sign_of x) x

unfoldable pub ceil_of : Float → Float
ceil_of x = whole_of (not (sign_of x)) x

-- x truncated to 32 bits, and the float of that
unfoldable pub part_of : Float → Part
part_of x = record { count = to_unsigned 32 x; value = of_int binary32 (pos (to_unsigned 32 x)) }

-- the floor and the ceiling as i32
abbrev pub span_of : Float → List ℤ
span_of x = to_signed 31 (floor_of x) ∷ to_signed 31 (ceil_of x) ∷ []
