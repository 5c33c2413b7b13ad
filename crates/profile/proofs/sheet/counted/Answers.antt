-- `profile::sheet::counted` meets its contract. Assumes nothing.
use Rattle.std.proofs.Common.{arith, sym, ◌∙◌}
use Rattle.records.specs.Record.{once}
use Rattle.profile.proofs.sheet.counted.Goals as goal

pub returns-then-has_segment : goal.returns-then-has_segment
unfolding once
returns-then-has_segment c = rw (sym c.has_segment.ensures ∙ c.if-has_segment.true)

pub returns : goal.returns
unfolding once
returns c = rw (sym c.has_segment.ensures ∙ c.if-has_segment.false) (omega arith)
