-- `svg::stretch::fraction_on` meets its contract. Assumes nothing.
use Prim.Native.Nat.{◌+◌}
use native.Mathlib.Omega.{arith}
use Rattle.svg.proofs.Reading.{below_power}
use Rattle.svg.proofs.Stretches.{fraction_ran}
use Rattle.svg.proofs.stretch.fraction_on.Goals as goal

pub digits-taken-requires : goal.digits-taken-requires
digits-taken-requires c =
    let pre = c.requires in
    let m = c.args.s.num in
    let H = pre.0.held in
    (pre.1, H.behind, below_power (m.before + m.behind) (m.behind + 9) m.n (let b = H.before in omega arith) H.small)

pub returns : goal.returns
returns c =
    let pre = c.requires in
    let D = c.digits-taken.ensures in
    fraction_ran pre.0 pre.2 D (let o = D.on in let n = c.if-at-i.false in omega arith)
