-- `roots::guess::cbrt_guess` meets its contract: none of the patterns is a NaN's. Assumes nothing.
use Rattle.std.proofs.Common.{arith}
use Rattle.roots.proofs.Patterns.{no_nan_pattern}
use Rattle.roots.proofs.guess.cbrt_guess.Goals as goal

pub float_from_bits-v : goal.float_from_bits-v
float_from_bits-v c = no_nan_pattern _ (omega arith)

pub float_from_bits-a : goal.float_from_bits-a
float_from_bits-a c = no_nan_pattern _ (omega arith)
