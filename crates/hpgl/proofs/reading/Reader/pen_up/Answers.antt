-- `hpgl::reading::Reader::pen_up` meets its contract. Assumes nothing.
use Rattle.hpgl.specs.ReadingLaws.{up_fresh, up_lifted, up_drawn}
use Rattle.hpgl.proofs.reading.Reader.pen_up.Goals as goal

pub returns-in-Fresh : goal.returns-in-Fresh
returns-in-Fresh c = rw c.in-Fresh.is (up_fresh c.args.self.table c.args.self.file.now c.args.at _ c.lift.ensures)

pub returns-in-Lifted : goal.returns-in-Lifted
returns-in-Lifted c = rw c.in-Lifted.is (up_lifted c.args.self.table c.args.self.file.now c.args.at _)

pub returns-in-Drawn : goal.returns-in-Drawn
returns-in-Drawn c = rw c.in-Drawn.is (up_drawn c.args.self.table c.args.self.file.now c.args.at _ _ c.lift-in-Drawn.ensures)
