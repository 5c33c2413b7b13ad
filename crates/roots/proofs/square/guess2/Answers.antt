-- `roots::square::guess2` meets its contract. Assumes nothing.
use Rattle.std.proofs.Common.{arith}
use Rattle.roots.proofs.Patterns.{no_nan_wide}
use Rattle.roots.proofs.square.guess2.Goals as goal

pub float_from_bits-v : goal.float_from_bits-v
float_from_bits-v c = no_nan_wide _ (omega arith)

pub float_from_bits-a : goal.float_from_bits-a
float_from_bits-a c = no_nan_wide _ (omega arith)
