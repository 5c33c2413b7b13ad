-- `spiral::euler::espc_int_approx` meets its contract. Assumes nothing.
use Rattle.spiral.specs.Euler.{espc_int_approx}
use Rattle.spiral.proofs.euler.espc_int_approx.Goals as goal

pub returns : goal.returns
unfolding espc_int_approx
returns c = rw (c.copysign.ensures, c.espc_curve.ensures, c.abs.ensures)
