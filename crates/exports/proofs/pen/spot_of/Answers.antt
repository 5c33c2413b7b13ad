-- `exports::pen::spot_of` meets its contract. Assumes nothing.
use Rattle.exports.proofs.pen.spot_of.Goals as goal

pub returns : goal.returns
returns c = rw (c.word_of-2.ensures, c.word_of.ensures)
