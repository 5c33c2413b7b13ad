-- `cut::sheet::Source::write` meets its contract. Assumes nothing.
use Prim.Native.Nat.{◌-◌, ◌≤◌}
use Rattle.cut.specs.Sheet.{six_of, sheet_of}
use Rattle.cut.specs.SheetLaws.{Written}
use Rattle.cut.proofs.sheet.Source.write.Given as goal

abbrev pub invariant-loop-k : goal.invariant-loop-k
invariant-loop-k l = Written (sheet_of l.self.tags.now l.self.points.now (six_of l.self.six)) l.initial.scene l.scene l.k × (l.k ≤ l.size)

abbrev pub decreases-loop-k : goal.decreases-loop-k
decreases-loop-k l = l.size - l.k
