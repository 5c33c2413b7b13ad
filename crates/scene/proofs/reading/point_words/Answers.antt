-- `scene::reading::point_words` meets its contract. Assumes nothing.
use Rattle.std.proofs.Common.{arith}
use Rattle.scene.specs.Reading.{point_words}
use Rattle.scene.proofs.reading.point_words.Goals as goal

pub returns-then-wide : goal.returns-then-wide
unfolding point_words
returns-then-wide c = (rw c.if-wide.true, omega arith)

pub returns-else-wide : goal.returns-else-wide
unfolding point_words
returns-else-wide c = (rw c.if-wide.false (omega arith), omega arith)
