-- `scene::words::word_at` meets its contract. Assumes nothing.
use Rattle.std.proofs.Common.{arith}
use Rattle.std.proofs.lemmas.Grind.{common_steps}
use Rattle.scene.specs.Words.{word_at}
use Rattle.scene.proofs.words.word_at.Goals as goal

pub returns : goal.returns
unfolding word_at
returns c = grind (arith, common_steps)
