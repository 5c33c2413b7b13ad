-- `hpgl::reading::Reader::read_number` meets its contract. Assumes nothing.
use Rattle.hpgl.specs.ReadingLaws.{Counting}
use Rattle.hpgl.proofs.reading.Reader.read_number.Given as goal

abbrev pub invariant-loop-at : goal.invariant-loop-at
invariant-loop-at l = Counting l.self.table l.self.file.now l.start l.ends l.n l.at
