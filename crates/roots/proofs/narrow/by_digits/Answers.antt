-- `roots::narrow::by_digits` meets its contract. Assumes nothing.
use Rattle.roots.proofs.Cubes.{digits_near}
use Rattle.roots.proofs.narrow.by_digits.Goals as goal

pub returns : goal.returns
returns c = digits_near _ _ _ c.requires.0 c.root25-x.ensures.0
