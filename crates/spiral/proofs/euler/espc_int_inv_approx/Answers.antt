-- `spiral::euler::espc_int_inv_approx` meets its contract. Assumes nothing.
use Rattle.spiral.specs.Euler.{espc_int_inv_approx}
use Rattle.spiral.proofs.euler.espc_int_inv_approx.Goals as goal

pub returns : goal.returns
unfolding espc_int_inv_approx
returns c = rw (c.copysign.ensures, c.espc_inverse.ensures, c.abs.ensures)
