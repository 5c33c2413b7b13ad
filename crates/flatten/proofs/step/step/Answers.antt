-- `flatten::step::step` meets its contract. Assumes nothing.
use Rattle.flatten.specs.Step.{step_from_by, step_by}
use Rattle.flatten.proofs.Steps.{went, fewer, none_left}
use Rattle.flatten.proofs.step.step.Goals as goal

pub returns-in-Ok : goal.returns-in-Ok
unfolding step_by step_from_by
returns-in-Ok c =
    (rw (← c.read_head.ensures, c.in-Ok.is, c.turn_of.ensures) (went _ _ _ _ _ _ _ _ c.tag_word-word.ensures c.draw_tag-drawn.ensures), fewer _ _ _ _ c.turn_of.ensures)

pub returns-in-Err : goal.returns-in-Err
unfolding step_by step_from_by
returns-in-Err c =
    (rw (← c.read_head.ensures, c.in-Err.is, c.refused_at.ensures), none_left _ _ _ c.refused_at.ensures)
