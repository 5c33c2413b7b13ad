-- A number that begins, and a test that cannot be. Assumes nothing.
use mathlib.Core.Path.{◌≡◌, sym, subst}
use mathlib.Core.Bool.{Bool, true, false}
use Prim.Native.Nat.{ℕ}
use native.Mathlib.Omega.{arith}
use lib.Dec.{T}
use Rattle.svg.specs.Machine.{Held, num}

pub no_false : false ≡ true → ⊥
no_false e = subst T (sym e) tt

pub fresh : (s : Bool) (i : ℕ) → Held (num s 0 0 0 i)
fresh s i = record { before = omega arith; behind = omega arith; small = omega arith }
