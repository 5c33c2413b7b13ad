-- An i32 that holds a number of the table's range. Assumes nothing.
use mathlib.Core.Path.{◌≡◌}
use mathlib.Core.Bool.{Bool, true, false}
use Prim.Native.Nat.{ℕ, suc, ◌<◌}
use native.Mathlib.Omega.{arith}
use lib.IntN.{ℤ, pos, negsuc}
use mir.Syntax.{w32}
use mir.Val.{to_z, of_z}
use Rattle.numbers.proofs.Integers.{read_back}
use Rattle.hpgl.specs.Form.{Within, range_of}
use Rattle.hpgl.specs.Reading.{value_of}
use Rattle.hpgl.specs.declared.Table.{Table}
use Rattle.hpgl.specs.declared.Table.TheVariants.{Old, New}

pub within_back : (table : Table) (z : ℤ) → Within (range_of table) z → to_z w32 (of_z w32 z) ≡ z
unfolding Within range_of
within_back Old (pos n) h = read_back (let e : n < 2147483648 = omega arith in e)
within_back Old (negsuc n) h = read_back (let e : n < 2147483648 = omega arith in e)
within_back New (pos n) h = read_back (let e : n < 2147483648 = omega arith in e)
within_back New (negsuc n) h = read_back (let e : n < 2147483648 = omega arith in e)
