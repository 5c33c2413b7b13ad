-- `drawing::arc::draw_chords` meets its contract. The invariant: the chords left to draw come to the same. Assumes nothing.
use Prim.Native.Nat.{◌-◌}
use Rattle.std.specs.Prelude.{Ok}
use Rattle.drawing.specs.Arc.{chords}
use Rattle.drawing.specs.PageLaws.{Left}
use Rattle.drawing.proofs.arc.draw_chords.Given as goal

abbrev pub invariant-loop : goal.invariant-loop
invariant-loop l =
    Left l.initial.lines (Ok l.initial.nib) (chords l.turns l.rot l.transform l.center l.end l.initial.at l.initial.arm) l.lines (Ok l.nib) (chords (l.turns - l.counter) l.rot l.transform l.center l.end l.at l.arm)
