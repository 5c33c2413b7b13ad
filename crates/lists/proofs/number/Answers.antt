-- `lists::number` meets its contract: so far the number is that of the digits passed. Assumes nothing.
use Prim.Native.Nat.{◌<◌}
use mathlib.Core.Path.{◌≡◌, refl}
use native.Mathlib.Omega.{arith}
use lib.ListN.{length-take}
use Rattle.lists.specs.Lists.{digits_at}
use Rattle.lists.proofs.Laws.{digit_below, room, next}
use Rattle.lists.proofs.number.Goals as goal

pub loop-b-init : goal.loop-b-init
unfolding digits_at
loop-b-init c = refl

pub overflow_mul-w : goal.overflow_mul-w
overflow_mul-w c = omega (arith, room c.args.digits.now 0 c.loop-b.b-index c.loop-b-test.true)

pub overflow_add-w : goal.overflow_add-w
overflow_add-w c =
    let small : c.digit.result < 16 = rw c.digit.ensures (digit_below _) in
    omega (arith, room c.args.digits.now 0 c.loop-b.b-index c.loop-b-test.true)

pub loop-b-preserved : goal.loop-b-preserved
loop-b-preserved c = let l = c.loop-b in rw (c.digit.ensures, l.invariant) (next _ l.b-index c.loop-b-test.true)

pub returns : goal.returns
returns c =
    let all : c.loop-b.b-index ≡ 8 = omega (arith, length-take 8 c.args.digits.now) in
    rw all at c.loop-b.invariant
