-- `curve::walk_side` meets its contract: the loop stands at a place of the tree, and what is left there comes to the same.
-- The measure is at most 131,071 at the start and falls at every turn, so there are at most as many turns. Assumes nothing.
use Prim.Native.Nat.{ℕ, ◌≤◌, ◌<◌}
use native.Mathlib.Nat.{le_of_eq}
use native.Mathlib.Omega.{arith}
use lib.Ieee.{of_bits, round}
use Rattle.drawing.specs.PageLaws.{begin, nothing, turn, done, halts}
use Rattle.curve.proofs.Walk.{here_start, left_start, small, at_end, below, few_zeros, next, next_less, taken, half, half_less}
use Rattle.curve.proofs.walk_side.Goals as goal

fewer : {a b n : ℕ} → a < b → b ≤ n → a ≤ n
fewer h k = omega arith

pub loop-side-init : goal.loop-side-init
unfolding of_bits round
loop-side-init c = (_, begin, here_start _ _, le_of_eq left_start)

pub returns-then-t0 : goal.returns-then-t0
unfolding of_bits
returns-then-t0 c =
    let i = c.loop-side.invariant in
    done i.1 (at_end i.2 c.from_u32.ensures c.if-t0.true) nothing

pub returns-in_err-nib : goal.returns-in_err-nib
unfolding of_bits round
returns-in_err-nib c =
    let i = c.loop-side.invariant in
    halts _ i.1
    (taken i.2 c.from_u32.ensures c.if-t0.false c.tip_at-to.ensures c.params_of-params.ensures c.accepts.ensures c.if-accepts.true c.fit_range-fit.ensures c.range_end-end.ensures)
    c.in_err-nib.ensures c.from_residual.ensures.1

pub overflow_add-t0_u : goal.overflow_add-t0_u
unfolding of_bits
overflow_add-t0_u c =
    omega (arith, below c.loop-side.invariant.2 c.from_u32.ensures c.if-t0.false)

pub overflow_shr-t0_u : goal.overflow_shr-t0_u
unfolding of_bits
overflow_shr-t0_u c =
    omega (arith, few_zeros c.loop-side.invariant.2 c.from_u32.ensures c.if-t0.false)

pub overflow_shl-shift : goal.overflow_shl-shift
unfolding of_bits
overflow_shl-shift c =
    omega (arith, few_zeros c.loop-side.invariant.2 c.from_u32.ensures c.if-t0.false)

pub loop-side-smaller-then-accepts : goal.loop-side-smaller-then-accepts
unfolding of_bits
loop-side-smaller-then-accepts c =
    next_less c.loop-side.invariant.2 c.from_u32.ensures c.if-t0.false c.from_u32-dt.ensures

pub loop-side-preserved-then-accepts : goal.loop-side-preserved-then-accepts
unfolding of_bits round
loop-side-preserved-then-accepts c =
    let i = c.loop-side.invariant in
    let w = c.from_u32.ensures in (
      _,
      turn i.1 (taken i.2 w c.if-t0.false c.tip_at-to.ensures c.params_of-params.ensures c.accepts.ensures c.if-accepts.true c.fit_range-fit.ensures c.range_end-end.ensures) c.in_ok-nib.ensures,
      next i.2 w c.if-t0.false c.from_u32-dt.ensures _,
      fewer (loop-side-smaller-then-accepts c) i.3,
    )

pub overflow_mul-t0_u : goal.overflow_mul-t0_u
overflow_mul-t0_u c = omega (arith, small c.loop-side.invariant.2)

pub loop-side-smaller : goal.loop-side-smaller
unfolding of_bits round
loop-side-smaller c =
    half_less c.loop-side.invariant.2 c.from_u32.ensures c.if-t0.false c.tip_at-to.ensures c.params_of-params.ensures c.accepts.ensures c.if-accepts.false

pub loop-side-preserved : goal.loop-side-preserved
unfolding of_bits round
loop-side-preserved c =
    let i = c.loop-side.invariant in (
      i.0,
      i.1,
      half i.2 c.from_u32.ensures c.if-t0.false c.tip_at-to.ensures c.params_of-params.ensures c.accepts.ensures c.if-accepts.false,
      fewer (loop-side-smaller c) i.3,
    )
