-- `curve::range_lines` meets its contract: what is left to draw comes to the same. Assumes nothing.
use Rattle.drawing.specs.PageLaws.{turn, done, halts}
use Rattle.curve.proofs.Lines.{lines_turn, lines_last}
use Rattle.curve.proofs.range_lines.Goals as goal

pub returns-in_err-nib : goal.returns-in_err-nib
returns-in_err-nib c =
    halts _ c.loop-i.invariant
    (lines_turn _ _ _ _ _ _ c.loop-i-test.true c.place-lp1.ensures)
    c.in_err-nib.ensures c.from_residual.ensures.1

pub loop-i-preserved : goal.loop-i-preserved
loop-i-preserved c =
    turn c.loop-i.invariant (lines_turn _ _ _ _ _ _ c.loop-i-test.true c.place-lp1.ensures) c.in_ok-nib.ensures

pub returns : goal.returns
returns c =
    done c.loop-i.invariant (lines_last _ _ _ _ _ _ c.loop-i-test.false) c.side_line-2.ensures
