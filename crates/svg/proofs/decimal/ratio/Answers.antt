-- `svg::decimal::ratio` meets its contract, by `ratio_right`. Assumes nothing.
use Prim.Native.Nat.{ℕ, ◌+◌, ◌-◌, ◌*◌, ◌/◌, ◌^◌, ◌≤◌, ◌<◌}
use native.Mathlib.Nat.{le_trans, mul-le-mul_left, le-div_iff_mul-le, div-le_self}
use native.Mathlib.Omega.{arith}
use Rattle.svg.specs.Decimal.{RatioBits}
use Rattle.svg.proofs.Rounding.{ratio_right}
use Rattle.svg.proofs.decimal.ratio.Goals as goal

wide : (w d : ℕ) → 2 ^ 63 ≤ w → 0 < d → d ≤ 2 ^ 30 → 2 ^ 33 ≤ w / d
wide w d l D h = (le-div_iff_mul-le D).1 (le_trans (mul-le-mul_left (2 ^ 33) h) l)

pub place-p-requires : goal.place-p-requires
place-p-requires c = wide _ _ c.lift-a.ensures.full c.requires.1 c.requires.2

pub overflow_mul-h : goal.overflow_mul-h
overflow_mul-h c =
    let q_le : c.lift-a.result.w / c.args.d ≤ c.lift-a.result.w = div-le_self c.lift-a.result.w c.args.d in
    let h = c.place-p.ensures.least in omega (arith, q_le)

pub overflow_mul-h-2 : goal.overflow_mul-h-2
overflow_mul-h-2 c =
    let q_le : c.lift-a.result.w / c.args.d ≤ c.lift-a.result.w = div-le_self c.lift-a.result.w c.args.d in
    let h = c.place-p.ensures.least in omega (arith, q_le)

pub overflow_add-result-2 : goal.overflow_add-result-2
overflow_add-result-2 c =
    let made : RatioBits c.args.n c.args.d ((c.place-p.result.t + 150 - c.lift-a.result.t) * 8388608 + c.to_nearest-r.result) = ratio_right _ _ c.lift-a.result.w _ c.place-p.result.w _ _ c.requires.1 c.lift-a.ensures c.place-p.ensures c.to_nearest-r.ensures.0 in
    let z = made.number in omega arith

pub overflow_cast-result : goal.overflow_cast-result
overflow_cast-result c =
    let made : RatioBits c.args.n c.args.d ((c.place-p.result.t + 150 - c.lift-a.result.t) * 8388608 + c.to_nearest-r.result) = ratio_right _ _ c.lift-a.result.w _ c.place-p.result.w _ _ c.requires.1 c.lift-a.ensures c.place-p.ensures c.to_nearest-r.ensures.0 in
    let z = made.number in omega arith

pub returns : goal.returns
returns c =
    let made : RatioBits c.args.n c.args.d ((c.place-p.result.t + 150 - c.lift-a.result.t) * 8388608 + c.to_nearest-r.result) = ratio_right _ _ c.lift-a.result.w _ c.place-p.result.w _ _ c.requires.1 c.lift-a.ensures c.place-p.ensures c.to_nearest-r.ensures.0 in
    made
