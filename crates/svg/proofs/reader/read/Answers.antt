use Rattle.svg.specs.declared.steps.Symbol.{Symbol}
use Rattle.svg.specs.Machine.{digit_of}
use Rattle.svg.proofs.Calls.{passed_on}
use Rattle.svg.proofs.Walks.{here_start, here_step, here_over, here_end, here_number, over_number, as_one, go_sound, here_on, byte_digit}
use mathlib.Core.Path.{sym, ◌∙◌, subst}
use Prim.Native.Nat.{◌≤◌}
use Rattle.svg.proofs.reader.read.Goals as goal

pub loop-i-init : goal.loop-i-init
loop-i-init c = here_start _ _ _ _ _ c.begin-w.ensures

pub loop-i-preserved-then-number_ended : goal.loop-i-preserved-then-number_ended
loop-i-preserved-then-number_ended c = here_number c.loop-i.invariant _ _ _ _ _ c.symbol_at-y.result c.loop-i-test.true c.symbol_at-y.ensures (sym c.number_ended.ensures ∙ c.if-number_ended.true) c.number_over.auto.tags c.number_over.auto.points c.number_over.ensures c.in_ok-w.was

pub step_at-taken-requires : goal.step_at-taken-requires
step_at-taken-requires c = (c.loop-i.invariant.sound.state.held, subst (λ (y : Symbol). digit_of y ≤ 9) (sym c.symbol_at-y.ensures) (byte_digit _))

pub number_on-stand-requires : goal.number_on-stand-requires
number_on-stand-requires c = go_sound c.loop-i.invariant c.symbol_at-y.result (sym c.number_ended.ensures ∙ c.if-number_ended.false) c.step_at-taken.result c.step_at-taken.ensures _ c.loop-i-test.true c.symbol_at-y.ensures c.in-Go.is

pub loop-i-preserved-in-Go : goal.loop-i-preserved-in-Go
loop-i-preserved-in-Go c = here_on c.loop-i.invariant c.symbol_at-y.result (sym c.number_ended.ensures ∙ c.if-number_ended.false) c.step_at-taken.result c.step_at-taken.ensures _ _ _ c.loop-i-test.true c.symbol_at-y.ensures c.in-Go.is c.number_on-stand.ensures

pub loop-i-preserved : goal.loop-i-preserved
loop-i-preserved c = here_step c.loop-i.invariant _ _ _ _ _ c.symbol_at-y.result c.loop-i-test.true c.symbol_at-y.ensures c.act.auto.tags c.act.auto.points (as_one c.loop-i.invariant c.symbol_at-y.result (sym c.number_ended.ensures ∙ c.if-number_ended.false) c.step_at-taken.result c.step_at-taken.ensures _ _ _ _ c.act.ensures) c.in_ok-w-2.was

pub returns : goal.returns
returns c = here_end c.loop-i.invariant _ _ _ _ c.loop-i-test.false c.last.ensures

pub returns-in_err-w : goal.returns-in_err-w
returns-in_err-w c = rw (passed_on _ _ c.from_residual.ensures.1)
    (over_number c.loop-i.invariant _ _ _ _ _ c.symbol_at-y.result c.loop-i-test.true c.symbol_at-y.ensures (sym c.number_ended.ensures ∙ c.if-number_ended.true) c.number_over.ensures c.in_err-w.was)

pub returns-in_err-w-2 : goal.returns-in_err-w-2
returns-in_err-w-2 c = rw (passed_on _ _ c.from_residual-in_err-w-2.ensures.1)
    (here_over c.loop-i.invariant _ _ _ _ _ c.symbol_at-y.result c.loop-i-test.true c.symbol_at-y.ensures
    (as_one c.loop-i.invariant c.symbol_at-y.result (sym c.number_ended.ensures ∙ c.if-number_ended.false) c.step_at-taken.result c.step_at-taken.ensures _ _ _ _ c.act.ensures) c.in_err-w-2.was)
