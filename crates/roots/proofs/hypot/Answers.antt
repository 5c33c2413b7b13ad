-- `roots::hypot` meets its contract: a candidate that is settled, or the root with none. Assumes nothing.
use Rattle.std.proofs.Common.{arith}
use Rattle.roots.proofs.Patterns.{no_nan_pattern}
use Rattle.roots.proofs.hypot.Goals as goal

pub float_from_bits-result : goal.float_from_bits-result
float_from_bits-result c = let h = c.in-Some.ensures.0 in no_nan_pattern _ (omega arith)
