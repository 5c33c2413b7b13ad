-- `sheets::points::goes_back` meets its contract. Assumes nothing.
use native.Mathlib.Omega.{arith}
use Rattle.sheets.proofs.Halves.{test_of}
use Rattle.sheets.proofs.points.goes_back.Goals as goal

pub returns : goal.returns
returns c = test_of c.args.w (omega arith) (omega arith) c.half_of.ensures c.i16_of.ensures c.word_of.ensures
