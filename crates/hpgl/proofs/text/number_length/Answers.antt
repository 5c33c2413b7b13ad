-- `hpgl::text::number_length` meets its contract. Assumes nothing.
use Rattle.hpgl.specs.TextLaws.{long_zero, long_minus, long_plus}
use Rattle.hpgl.proofs.text.number_length.Goals as goal

pub returns-then-n-eq0 : goal.returns-then-n-eq0
returns-then-n-eq0 c = long_zero c.args.n.negative c.args.n.size c.decimal_length-digits.result c.if-n-eq0.true c.decimal_length-digits.ensures

pub returns-then-n : goal.returns-then-n
returns-then-n c = long_minus c.args.n.negative c.args.n.size c.decimal_length-digits.result c.if-n.true c.if-n-eq0.false c.decimal_length-digits.ensures

pub returns : goal.returns
returns c = long_plus c.args.n.negative c.args.n.size c.decimal_length-digits.result c.if-n.false c.decimal_length-digits.ensures
