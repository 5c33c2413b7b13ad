-- `spiral::euler::EulerParams::eval` meets its contract. Assumes nothing.
use lib.Ieee.{of_bits, round}
use Rattle.spiral.specs.Euler.{eval_of}
use Rattle.spiral.proofs.euler.EulerParams.eval.Goals as goal

pub returns : goal.returns
unfolding eval_of of_bits round
returns c = rw (c.cos.ensures, c.sin.ensures, c.integ_euler_10-uv.ensures, c.eval_th-thm.ensures)
