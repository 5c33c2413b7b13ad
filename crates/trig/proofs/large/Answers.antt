-- `trig::large` meets its contract. Assumes nothing.
use mathlib.Core.Path.{◌≡◌}
use Prim.Native.Nat.{ℕ, ◌/◌, ◌%◌, ◌^◌}
use native.Mathlib.Omega.{arith}
use Rattle.trig.specs.Trig.{parted_of, large_of}
use Rattle.trig.proofs.large.Goals as goal

-- whole turns change nothing
fraction : (u v : ℕ) → u % 2 ^ 40 ≡ v % 2 ^ 40 → u % 2 ^ 38 ≡ v % 2 ^ 38
fraction u v h = omega arith

quarter : (u v : ℕ) → u % 2 ^ 40 ≡ v % 2 ^ 40 → u / 2 ^ 38 % 4 ≡ v / 2 ^ 38 % 4
quarter u v h = omega arith

whole_turns : (u v : ℕ) → u % 2 ^ 40 ≡ v % 2 ^ 40 → parted_of u ≡ parted_of v
unfolding parted_of
whole_turns u v h = rw (fraction u v h, quarter u v h)

pub returns : goal.returns
unfolding large_of
returns c = rw (c.parted.ensures, whole_turns _ _ c.units.ensures, c.word_of.ensures)
