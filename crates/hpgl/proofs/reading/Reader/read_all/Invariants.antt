-- `hpgl::reading::Reader::read_all` meets its contract. Assumes nothing.
use Prim.Native.Nat.{◌-◌}
use lib.ListN.{length}
use Rattle.hpgl.specs.ReadingLaws.{Unread}
use Rattle.hpgl.proofs.reading.Reader.read_all.Given as goal

abbrev pub invariant-loop-at : goal.invariant-loop-at
invariant-loop-at l = Unread l.self.table l.self.file.now l.start l.initial.lines l.room l.lines l.at l.stand l.count

abbrev pub decreases-loop-at : goal.decreases-loop-at
decreases-loop-at l = length l.self.file.now - l.at
