-- `svg::stretch::digits` meets its contract. Assumes nothing.
use native.Mathlib.Omega.{arith}
use lib.ListN.{get_or}
use Rattle.svg.proofs.Reading.{room, digit_bounds}
use Rattle.svg.proofs.Stretches.{digits_more}
use Rattle.svg.proofs.stretch.digits.Goals as goal

pub overflow_mul-n : goal.overflow_mul-n
overflow_mul-n c =
    let told = c.has_digit.ensures.told c.loop-n-test.true in
    let l = c.loop-n in
    omega (arith, room l.count 9 l.n (omega (arith, told.1)) l.invariant.small)

pub overflow_add-n : goal.overflow_add-n
overflow_add-n c =
    let told = c.has_digit.ensures.told c.loop-n-test.true in
    let l = c.loop-n in
    omega (arith, room l.count 9 l.n (omega (arith, told.1)) l.invariant.small, (digit_bounds (get_or c.args.text.now c.loop-n.i 0) told.2).1)

pub loop-n-preserved : goal.loop-n-preserved
loop-n-preserved c =
    let told = c.has_digit.ensures.told c.loop-n-test.true in
    digits_more c.loop-n.invariant told.0 told.2 told.1
