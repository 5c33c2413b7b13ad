-- `hpgl::text::decimal_length` meets its contract. Assumes nothing.
use Rattle.hpgl.specs.TextLaws.{long_small, long_log}
use Rattle.hpgl.proofs.text.decimal_length.Goals as goal

pub returns-then-n-lt10 : goal.returns-then-n-lt10
returns-then-n-lt10 c = long_small c.args.n c.if-n-lt10.true

pub returns : goal.returns
returns c = long_log _ c.args.n c.ilog10.ensures.power_le c.ilog10.ensures.next_power_gt
