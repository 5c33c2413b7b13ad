-- `roots::guess::lift` meets its contract. Assumes nothing.
use Rattle.std.proofs.Common.{ℕ, ◌+◌, ◌*◌, ◌<◌, ◌≤◌, mul-le-mul, arith}
use Rattle.roots.proofs.Patterns.{no_nan_pattern}
use Rattle.roots.proofs.guess.lift.Goals as goal

small : (r : ℕ) → r < 3 → r * (r * 138 + 927) ≤ 2406
small r h = mul-le-mul {n₂ = 2} {m₂ = 1203} (omega arith) (omega arith)

pub float_from_bits-result : goal.float_from_bits-result
float_from_bits-result c = no_nan_pattern _ (omega (arith, small c.args.r c.requires))
