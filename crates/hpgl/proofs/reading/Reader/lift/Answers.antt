-- `hpgl::reading::Reader::lift` meets its contract. Assumes nothing.
use Rattle.hpgl.specs.ReadingLaws.{lift_at}
use Rattle.hpgl.proofs.reading.Reader.lift.Goals as goal

pub returns : goal.returns
returns c = lift_at c.args.self.table c.args.self.file.now c.args.at _ _ c.in_ok-t.ensures
