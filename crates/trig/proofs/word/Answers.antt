-- `trig::word` meets its contract. Assumes nothing.
use mathlib.Core.Path.{◌≡◌, sym, ap}
use Prim.Native.Nat.{ℕ, ◌-◌, ◌*◌, ◌/◌, ◌%◌, ◌^◌, ◌≤◌}
use native.Mathlib.Nat.{lt_of_lt_of_le, div-eq_of_lt}
use native.Mathlib.Omega.{arith}
use lib.Dec.{lit<}
use lib.Pow.{pow_mono}
use borrow.Author.Tests.{leb-true}
use Rattle.trig.specs.Trig.{two_over_pi}
use Rattle.trig.proofs.word.Goals as goal

-- before the point
whole : (i : ℕ) → i ≤ 4 → 0 ≡ two_over_pi / 2 ^ (32 * (10 - i)) % 2 ^ 32
unfolding two_over_pi
whole i h =
    let k : 192 ≤ 32 * (10 - i) = omega arith in
    sym (ap (λ (q : ℕ). q % 2 ^ 32) (div-eq_of_lt (lt_of_lt_of_le (lit< {m = two_over_pi} {n = 2 ^ 192} tt) (pow_mono k))))

pub returns-in-5 : goal.returns-in-5
unfolding two_over_pi
returns-in-5 c = rw c.in-5.is

pub returns-in-6 : goal.returns-in-6
unfolding two_over_pi
returns-in-6 c = rw c.in-6.is

pub returns-in-7 : goal.returns-in-7
unfolding two_over_pi
returns-in-7 c = rw c.in-7.is

pub returns-in-8 : goal.returns-in-8
unfolding two_over_pi
returns-in-8 c = rw c.in-8.is

pub returns-in-9 : goal.returns-in-9
unfolding two_over_pi
returns-in-9 c = rw c.in-9.is

pub returns-in-0 : goal.returns-in-0
returns-in-0 c = whole c.args.i (omega (arith, leb-true))

pub returns-in_default : goal.returns-in_default
unfolding two_over_pi
returns-in_default c = let e : 10 - c.args.i ≡ 0 = omega arith in rw e
