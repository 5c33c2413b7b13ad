-- `hpgl::rounding::coordinate` meets its contract. Assumes nothing.
use Rattle.hpgl.specs.Bits.{far_bad, size_bad, size_good}
use Rattle.hpgl.proofs.rounding.coordinate.Goals as goal

pub returns-then-field-gt150 : goal.returns-then-field-gt150
returns-then-field-gt150 c = far_bad c.args.table c.args.word c.if-field-gt150.true

pub returns-then-size-most_of : goal.returns-then-size-most_of
returns-then-size-most_of c = size_bad c.args.table c.args.word c.if-field-gt150.false c.size_of-size.result c.size_of-size.ensures c.most_of.result c.most_of.ensures c.if-size-most_of.true

pub returns : goal.returns
returns c = size_good c.args.table c.args.word c.if-field-gt150.false c.size_of-size.result c.size_of-size.ensures c.most_of.result c.most_of.ensures c.if-size-most_of.false
