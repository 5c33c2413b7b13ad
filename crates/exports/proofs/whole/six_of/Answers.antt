-- `exports::whole::six_of` meets its contract. Assumes nothing.
use Rattle.exports.proofs.whole.six_of.Goals as goal

pub returns : goal.returns
returns c =
    rw (c.word_of.ensures, c.word_of-2.ensures, c.word_of-3.ensures, c.word_of-4.ensures, c.word_of-5.ensures, c.word_of-6.ensures)
