-- `svg::decimal::place` meets its contract. Assumes nothing.
use native.Mathlib.Omega.{arith}
use lib.Count.{count_leading_zeros, leading_top}
use Rattle.svg.proofs.Lifting.{placed, few}
use Rattle.svg.proofs.decimal.place.Goals as goal

pub overflow_sub-i : goal.overflow_sub-i
overflow_sub-i c =
    let q = c.args.q in
    let top = leading_top 64 q (omega arith) c.ranges.q.fits in
    few q (count_leading_zeros 64 q) top.0 top.1 top.3 c.requires

pub returns : goal.returns
returns c =
    let q = c.args.q in
    let top = leading_top 64 q (omega arith) c.ranges.q.fits in
    placed q (count_leading_zeros 64 q) top.0 top.1 top.2 top.3 c.requires
