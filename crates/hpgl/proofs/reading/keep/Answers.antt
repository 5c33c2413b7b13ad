-- `hpgl::reading::keep` meets its contract. Assumes nothing.
use Rattle.hpgl.specs.Form.{range_of}
use Rattle.hpgl.specs.ReadingLaws.{kept_in, kept_out}
use Rattle.hpgl.proofs.reading.keep.Goals as goal

pub returns-then-w-most_of : goal.returns-then-w-most_of
returns-then-w-most_of c = kept_in (range_of c.args.table) c.args.s c.args.w c.most_of.result c.most_of.ensures c.if-w-most_of.true

pub returns : goal.returns
returns c = kept_out (range_of c.args.table) c.args.s c.args.w c.most_of.result c.most_of.ensures c.if-w-most_of.false
