-- `exports::pen::open_word` meets its contract. Assumes nothing.
use Rattle.exports.specs.Pen.{open_word}
use Rattle.exports.proofs.pen.open_word.Goals as goal

pub returns-in-Nothing : goal.returns-in-Nothing
unfolding open_word
returns-in-Nothing c = rw c.in-Nothing.is

pub returns-in-Moved : goal.returns-in-Moved
unfolding open_word
returns-in-Moved c = rw c.in-Moved.is

pub returns-in-Drawing : goal.returns-in-Drawing
unfolding open_word
returns-in-Drawing c = rw c.in-Drawing.is
