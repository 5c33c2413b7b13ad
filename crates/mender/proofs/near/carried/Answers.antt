-- `mender::near::carried` meets its contract. Assumes nothing.
use native.Mathlib.Omega.{arith}
use Rattle.mender.proofs.Halves.{left_bit}
use Rattle.mender.proofs.near.carried.Goals as goal

pub overflow_add-result-2 : goal.overflow_add-result-2
overflow_add-result-2 c =
    let a = c.args in
    let v = left_bit a.v.digits a.v.shift in
    omega (arith, c.low.ensures, c.requires)

pub overflow_add-result-3 : goal.overflow_add-result-3
overflow_add-result-3 c =
    let a = c.args in
    let v = left_bit a.v.digits a.v.shift in
    let w = left_bit a.w.digits a.w.shift in
    omega (arith, c.low.ensures, c.low-2.ensures, c.requires)

pub overflow_sub-result : goal.overflow_sub-result
overflow_sub-result c =
    let a = c.args in
    let u = left_bit a.u.digits a.u.shift in
    omega (arith, c.low-3.ensures)
