-- `profile::trail::take_step` meets its contract. Assumes nothing.
use Rattle.std.proofs.Common.{◌∙◌}
use Rattle.profile.specs.Trail.{step_by}
use Rattle.profile.proofs.Laws.{told, entered_small}
use Rattle.profile.proofs.trail.take_step.Goals as goal

pub returns-then-not-has_segment : goal.returns-then-not-has_segment
unfolding step_by
returns-then-not-has_segment c = rw (told _ _ _ c.has_segment.ensures c.if-not-has_segment.true) (c.stepped.ensures ∙ rw c.plain_facts.ensures)

pub segment_facts-requires : goal.segment_facts-requires
segment_facts-requires c = entered_small _ _ _ c.requires.small c.entered-within.ensures

pub behind-requires : goal.behind-requires
behind-requires c = entered_small _ _ _ c.requires.small c.entered-within.ensures

pub returns : goal.returns
unfolding step_by
returns c =
    rw (told _ _ _ c.has_segment.ensures c.if-not-has_segment.false)
    (c.stepped-2.ensures ∙ rw (c.segment_facts.ensures, c.behind.ensures, c.has_end.ensures, c.entered-within.ensures, c.piece_of-piece.ensures))
