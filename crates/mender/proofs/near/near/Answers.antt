-- `mender::near::near` meets its contract. Assumes nothing.
use Prim.Native.Nat.{ℕ, ◌<◌, ◌≤◌}
use mathlib.Core.Path.{◌≡◌}
use mathlib.Core.Bool.{true, false}
use borrow.Author.Tests.{le-leb, lt-leb}
use Rattle.mender.specs.Near.{minus, units_of, apart, is_near}
use Rattle.mender.proofs.near.near.Goals as goal

above : (w : ℕ) → 2147483648 ≤ w → minus w ≡ true
unfolding minus
above w h = le-leb 2147483648 w h

under : (w : ℕ) → w < 2147483648 → minus w ≡ false
unfolding minus
under w h = lt-leb 2147483648 w h

pub returns-then-b-ge2147483648 : goal.returns-then-b-ge2147483648
unfolding is_near apart units_of
returns-then-b-ge2147483648 c =
    rw (above _ c.if-a-ge2147483648.true, above _ c.if-b-ge2147483648.true, c.near_alike.ensures, c.steps_of-n.ensures, c.steps_of-m.ensures)

pub returns-else-b-ge2147483648 : goal.returns-else-b-ge2147483648
unfolding is_near apart units_of
returns-else-b-ge2147483648 c =
    rw (above _ c.if-a-ge2147483648.true, under _ c.if-b-ge2147483648.false, c.near_across.ensures, c.steps_of-n.ensures, c.steps_of-m.ensures)

pub returns-then-b-ge2147483648-2 : goal.returns-then-b-ge2147483648-2
unfolding is_near apart units_of
returns-then-b-ge2147483648-2 c =
    rw (under _ c.if-a-ge2147483648.false, above _ c.if-b-ge2147483648-2.true, c.near_across-then-b-ge2147483648-2.ensures, c.steps_of-n.ensures, c.steps_of-m.ensures)

pub returns-else-b-ge2147483648-2 : goal.returns-else-b-ge2147483648-2
unfolding is_near apart units_of
returns-else-b-ge2147483648-2 c =
    rw (under _ c.if-a-ge2147483648.false, under _ c.if-b-ge2147483648-2.false, c.near_alike-else-b-ge2147483648-2.ensures, c.steps_of-n.ensures, c.steps_of-m.ensures)
