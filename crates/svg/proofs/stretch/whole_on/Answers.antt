-- `svg::stretch::whole_on` meets its contract. Assumes nothing.
use mathlib.Core.Path.{refl, sym, ◌∙◌}
use Prim.Native.Nat.{◌+◌}
use native.Mathlib.Omega.{arith}
use Rattle.svg.proofs.Reading.{below_power}
use Rattle.svg.proofs.Stretches.{point_told, onward_then, whole_ran, whole_point}
use Rattle.svg.proofs.stretch.whole_on.Goals as goal

pub digits-taken-requires : goal.digits-taken-requires
digits-taken-requires c =
    let pre = c.requires in
    let m = c.args.s.num in
    let H = pre.0.held in
    (pre.1, H.before, below_power (m.before + m.behind) (m.before + 9) m.n (let b = H.behind in omega arith) H.small)

pub fraction_on-requires : goal.fraction_on-requires
fraction_on-requires c =
    let pre = c.requires in
    let point = point_told c.args.text.now c.digits-taken.result.at (sym c.has_point.ensures ∙ c.if-has_point.true) in
    let a = whole_point pre.0 pre.2 c.digits-taken.ensures point.0 point.1 in
    (a.sound, a.within, refl)

pub returns-then-has_point : goal.returns-then-has_point
returns-then-has_point c =
    let pre = c.requires in
    let point = point_told c.args.text.now c.digits-taken.result.at (sym c.has_point.ensures ∙ c.if-has_point.true) in
    onward_then (whole_point pre.0 pre.2 c.digits-taken.ensures point.0 point.1) c.fraction_on.ensures

pub returns : goal.returns
returns c =
    let pre = c.requires in
    let D = c.digits-taken.ensures in
    whole_ran pre.0 pre.2 D (let o = D.on in let n = c.if-at-i.false in omega arith)
