-- `hpgl::range::most_of` meets its contract. Assumes nothing.
use Rattle.hpgl.specs.Ranges.{old_most}
use Rattle.hpgl.proofs.range.most_of.Goals as goal

pub returns-in-Old : goal.returns-in-Old
returns-in-Old c = rw c.in-Old.is (old_most c.args.s)
