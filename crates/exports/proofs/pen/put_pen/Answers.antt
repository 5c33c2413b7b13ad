-- `exports::pen::put_pen` meets its contract. Assumes nothing.
use Rattle.exports.specs.Pen.{pen_words}
use Rattle.exports.proofs.pen.put_pen.Goals as goal

pub returns : goal.returns
unfolding pen_words
returns c = rw c.open_word.ensures
