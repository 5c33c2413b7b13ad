-- `exports::pen::read_pen` meets its contract. Assumes nothing.
use Rattle.exports.specs.Pen.{pen_read}
use Rattle.exports.proofs.pen.read_pen.Goals as goal

pub returns : goal.returns
unfolding pen_read
returns c =
    rw (c.spot_at-last.ensures, c.spot_at-first.ensures, c.open_of-opened.ensures)
