-- `profile::sheet::step_at` meets its contract: the head was read before. Assumes nothing.
use Rattle.std.proofs.Common.{sym, ◌∙◌}
use Rattle.profile.proofs.Passes.{reads_again, reads_now, segment_reached}
use Rattle.profile.proofs.sheet.step_at.Goals as goal

pub unwrap-head-requires : goal.unwrap-head-requires
unwrap-head-requires c = reads_now _ _ _ c.requires.was_read c.read_head.ensures

pub take_step-requires-clause-in_reach : goal.take_step-requires-clause-in_reach
take_step-requires-clause-in_reach c =
    segment_reached _ _ _ c.requires.was_read (reads_again _ _ _ c.requires.was_read (sym c.read_head.ensures ∙ c.unwrap-head.ensures))

pub returns : goal.returns
returns c = rw (← (reads_again _ _ _ c.requires.was_read (sym c.read_head.ensures ∙ c.unwrap-head.ensures))) c.take_step.ensures
