-- `roots::narrow::square` meets its contract. Assumes nothing.
use Rattle.std.proofs.Common.{arith}
use Rattle.roots.proofs.Products.{square_is}
use Rattle.roots.proofs.narrow.square.Goals as goal

pub returns : goal.returns
returns c = (omega (arith, square_is c.args.q), omega arith)
