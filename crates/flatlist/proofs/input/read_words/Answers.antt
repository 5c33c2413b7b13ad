-- `flatlist::input::read_words` meets its contract: the words of the lines so far and those of what is left are the text's.
-- Assumes nothing.
use Rattle.std.proofs.Common.{◌∙◌, sym}
use Rattle.flatlist.proofs.Reading.{start, bad_line, no_room, line_turn, at_end}
use Rattle.flatlist.proofs.input.read_words.Goals as goal

pub loop-line-init : goal.loop-line-init
loop-line-init c =
    let items = c.chunks-line-items.ensures in
    rw (c.into_iter-line-iterator.ensures.into_iter_gives, items.rest, items.size) (start _)

pub returns-in_err-word : goal.returns-in_err-word
returns-in_err-word c =
    let step = c.in-Some.ensures.steps.1 in
    c.from_residual.ensures ∙ sym (bad_line c.loop-line.invariant _ _ step.0 step.1 step.2 c.in_err-word.ensures)

pub returns-then-count-ge1030 : goal.returns-then-count-ge1030
returns-then-count-ge1030 c =
    let step = c.in-Some.ensures.steps.1 in
    sym (no_room c.loop-line.invariant _ _ step.0 step.1 step.2 c.in_ok-word.ensures c.if-count-ge1030.true)

pub loop-line-preserved : goal.loop-line-preserved
loop-line-preserved c =
    let step = c.in-Some.ensures.steps.1 in
    line_turn c.loop-line.invariant _ _ step.0 step.1 step.2 c.in_ok-word.ensures c.in-Some.ensures.steps.0 c.if-count-ge1030.false

pub returns : goal.returns
returns c = at_end c.loop-line.invariant c.in-None.ensures.steps.1.0
