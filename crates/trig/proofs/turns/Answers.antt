-- `trig::turns` meets its contract. Assumes nothing.
use mathlib.Core.Path.{◌≡◌}
use Prim.Native.Nat.{ℕ, ◌+◌, ◌%◌}
use native.Mathlib.Omega.{arith}
use lib.Ieee.{Float}
use Rattle.trig.specs.Trig.{curve_of, wave_of}
use Rattle.trig.proofs.turns.Goals as goal

-- four quarter turns change nothing
parity : (k j : ℕ) → (k % 4 + j) % 2 ≡ (k + j) % 2
parity k j = omega arith

quarter : (k j : ℕ) → (k % 4 + j) % 4 ≡ (k + j) % 4
quarter k j = omega arith

whole_turns : (k j : ℕ) (r : Float) → wave_of (k % 4 + j) r ≡ wave_of (k + j) r
unfolding wave_of curve_of
whole_turns k j r = rw (parity k j, quarter k j)

pub returns : goal.returns
returns c = rw (c.wave.ensures, whole_turns)
