-- `hpgl::reading::on_digit` meets its contract. Assumes nothing.
use native.Mathlib.Omega.{arith}
use Rattle.hpgl.specs.ReadingLaws.{good_some}
use Rattle.hpgl.proofs.reading.on_digit.Goals as goal

pub overflow_mul-w : goal.overflow_mul-w
overflow_mul-w c = omega (arith, good_some c.args.table c.args.n _ _ c.in-Some.is c.requires.0)

pub overflow_add-w : goal.overflow_add-w
overflow_add-w c = omega (arith, good_some c.args.table c.args.n _ _ c.in-Some.is c.requires.0)

pub overflow_add-w-in-Some : goal.overflow_add-w-in-Some
overflow_add-w-in-Some c = omega (arith, good_some c.args.table c.args.n _ _ c.in-Some.is c.requires.0)
