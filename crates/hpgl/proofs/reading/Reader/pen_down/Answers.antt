-- `hpgl::reading::Reader::pen_down` meets its contract. Assumes nothing.
use Rattle.hpgl.specs.ReadingLaws.{down_fresh, down_lifted, down_drawn}
use Rattle.hpgl.proofs.reading.Reader.pen_down.Goals as goal

pub returns-in-Fresh : goal.returns-in-Fresh
returns-in-Fresh c = rw c.in-Fresh.is (down_fresh c.args.self.table c.args.self.file.now c.args.at)

pub returns-in-Lifted : goal.returns-in-Lifted
returns-in-Lifted c = rw c.in-Lifted.is (down_lifted c.args.self.table c.args.self.file.now c.args.at _ _ c.draw.ensures)

pub returns-in-Drawn : goal.returns-in-Drawn
returns-in-Drawn c = rw c.in-Drawn.is (down_drawn c.args.self.table c.args.self.file.now c.args.at _ _ c.draw-in-Drawn.ensures)
