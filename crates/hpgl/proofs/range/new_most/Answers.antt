-- `hpgl::range::new_most` meets its contract. Assumes nothing.
use Rattle.hpgl.specs.Ranges.{new_below, new_above}
use Rattle.hpgl.proofs.range.new_most.Goals as goal

pub returns-then-s : goal.returns-then-s
returns-then-s c = rw c.if-s.true new_below

pub returns : goal.returns
returns c = rw c.if-s.false new_above
