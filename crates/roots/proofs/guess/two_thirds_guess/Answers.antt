-- `roots::guess::two_thirds_guess` meets its contract: none of the patterns is a NaN's. Assumes nothing.
use Rattle.std.proofs.Common.{arith}
use Rattle.roots.proofs.Patterns.{no_nan_pattern}
use Rattle.roots.proofs.guess.two_thirds_guess.Goals as goal

pub float_from_bits-v : goal.float_from_bits-v
float_from_bits-v c = no_nan_pattern _ (omega arith)

pub float_from_bits-h : goal.float_from_bits-h
float_from_bits-h c = no_nan_pattern _ (omega arith)

pub float_from_bits-half : goal.float_from_bits-half
float_from_bits-half c = no_nan_pattern _ (omega arith)

pub float_from_bits-w : goal.float_from_bits-w
float_from_bits-w c = no_nan_pattern _ (omega arith)
