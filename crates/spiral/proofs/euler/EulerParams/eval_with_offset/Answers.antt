-- `spiral::euler::EulerParams::eval_with_offset` meets its contract. Assumes nothing.
use Rattle.spiral.specs.Euler.{eval_with_offset}
use Rattle.spiral.specs.NoOffset.{no_offset}
use Rattle.spiral.proofs.euler.EulerParams.eval_with_offset.Goals as goal

pub returns-then-stays : goal.returns-then-stays
returns-then-stays c = rw c.eval-p.ensures (no_offset _ _ _ (rw (← c.eval-p.ensures, ← c.eval_th-th.ensures, ← c.stays.ensures) c.if-stays.true))

pub returns : goal.returns
unfolding eval_with_offset
returns c = rw (c.add.ensures, c.cos.ensures, c.sin.ensures, c.eval-p.ensures, c.eval_th-th.ensures)
