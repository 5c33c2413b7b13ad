-- A float's sign and size, and the value of a binary16. Words are lib.Ieee's `of_bits binary32` and `to_bits binary32`, and its `is_nan` tells a NaN. Definitions only.
use Rattle.std.specs.Prelude.{ℕ, zero, suc, ◌+◌, ◌*◌, ◌/◌, ◌%◌, ◌^◌, Bool, false, cond, ◌==◌, Float}
use Rattle.std.specs.Float.{nan, inf, fin, binary32}
use Rattle.std.specs.Float.Ieee.{round, neg}

-- the sign bit, so that of -0 is set; a NaN has none
unfoldable pub sign_of : Float → Bool
sign_of nan = false
sign_of (inf s) = s
sign_of (fin s m e) = s

-- x, its sign turned round where s is true
unfoldable pub signed : Bool → Float → Float
signed s x = cond s (neg x) x

unfoldable pub abs_of : Float → Float
abs_of x = signed (sign_of x) x

-- the size of x, with the sign of s
unfoldable pub copysign_of : Float → Float → Float
copysign_of x s = signed (sign_of s) (abs_of x)

-- ---- IEEE binary16: the sign, five bits of exponent x, and ten digits t

-- the size of a finite one, in units of 2 ^ -24: (1024 + t) * 2 ^ (x - 25), and a field of 0 has no leading digit and counts as 1
unfoldable pub half_units : ℕ → ℕ → ℕ
half_units zero t = t
half_units (suc x) t = (1024 + t) * 2 ^ x

-- an exponent of all ones is an infinity or a NaN
unfoldable pub half_fields : Bool → ℕ → ℕ → Float
half_fields s x t = cond (x == 31) (cond (t == 0) (inf s) nan) (round binary32 s (half_units x t) (2 ^ 24))

-- the binary16 in the low 16 bits of w
unfoldable pub half_of : ℕ → Float
half_of w = half_fields (w / 32768 % 2 == 1) (w / 1024 % 32) (w % 1024)
