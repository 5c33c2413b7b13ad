-- `hpgl::reading::num_step` meets its contract. Assumes nothing.
use mathlib.Core.Path.{◌∙◌}
use Rattle.hpgl.specs.Reading.{num_step}
use Rattle.hpgl.specs.ReadingLaws.{good_new, byte_dash, byte_low, byte_digit, byte_high}
use Rattle.hpgl.proofs.reading.num_step.Goals as goal

pub returns-then-b-eq45 : goal.returns-then-b-eq45
unfolding num_step
returns-then-b-eq45 c = c.on_dash.ensures ∙ rw (byte_dash c.args.b c.if-b-eq45.true)

pub on_other-requires : goal.on_other-requires
on_other-requires c = good_new c.args.table c.args.n c.requires

pub returns-then-b-lt48 : goal.returns-then-b-lt48
unfolding num_step
returns-then-b-lt48 c = c.on_other.ensures ∙ rw (byte_low c.args.b c.if-b-eq45.false c.if-b-lt48.true)

pub returns-then-b-lt58 : goal.returns-then-b-lt58
unfolding num_step
returns-then-b-lt58 c = c.on_digit.ensures ∙ rw (byte_digit c.args.b c.if-b-eq45.false c.if-b-lt48.false c.if-b-lt58.true)

pub on_other-requires-2 : goal.on_other-requires-2
on_other-requires-2 c = good_new c.args.table c.args.n c.requires

pub returns : goal.returns
unfolding num_step
returns c = c.on_other-2.ensures ∙ rw (byte_high c.args.b c.if-b-eq45.false c.if-b-lt48.false c.if-b-lt58.false)
