-- `cut::sheet::tag_words` meets its contract. Assumes nothing.
use native.Mathlib.Omega.{arith}
use Rattle.cut.specs.Sheet.{groups, tag_words}
use Rattle.cut.proofs.sheet.tag_words.Goals as goal

pub returns : goal.returns
unfolding tag_words groups
returns c = omega arith
