-- `spiral::euler::EulerSeg::eval_with_offset` meets its contract. Assumes nothing.
use Rattle.spiral.specs.Euler.{point_of}
use Rattle.spiral.proofs.euler.EulerSeg.eval_with_offset.Goals as goal

pub returns : goal.returns
unfolding point_of
returns c = rw (c.eval_with_offset-p.ensures, c.sub-chord.ensures)
