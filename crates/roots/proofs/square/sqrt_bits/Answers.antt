-- `roots::square::sqrt_bits` meets its contract: a candidate that is settled is the nearest, by `sqrt_settled`. Assumes nothing.
use Rattle.roots.proofs.Candidates.{sqrt_settled}
use Rattle.roots.proofs.square.sqrt_bits.Goals as goal

pub returns-in-Some : goal.returns-in-Some
returns-in-Some c = sqrt_settled _ c.requires.0 c.requires.1 _ c.in-Some.ensures
