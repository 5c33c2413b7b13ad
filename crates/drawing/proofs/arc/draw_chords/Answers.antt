-- `drawing::arc::draw_chords` meets its contract. The invariant: the chords left to draw come to the same. Assumes nothing.
use Rattle.drawing.specs.PageLaws.{turn, done, halts}
use Rattle.drawing.proofs.Chords.{chord, last_chord}
use Rattle.drawing.proofs.arc.draw_chords.Goals as goal

pub returns-in_err-nib : goal.returns-in_err-nib
returns-in_err-nib c =
    halts _ c.loop.invariant
    (chord _ _ _ _ _ _ _ _ c.loop-test.true c.apply-arm.ensures c.add.ensures c.apply-next.ensures)
    c.in_err-nib.ensures c.from_residual.ensures.1

pub loop-preserved : goal.loop-preserved
loop-preserved c =
    turn c.loop.invariant
    (chord _ _ _ _ _ _ _ _ c.loop-test.true c.apply-arm.ensures c.add.ensures c.apply-next.ensures)
    c.in_ok-nib.ensures

pub returns : goal.returns
returns c =
    done c.loop.invariant (last_chord _ _ _ _ _ _ _ _ c.loop-test.false c.apply.ensures) c.write_line-2.ensures
