-- `spiral::euler::long_chord` meets its contract. Assumes nothing.
use Rattle.spiral.specs.Euler.{long_chord}
use Rattle.spiral.specs.Judged.{judged_by}
use Rattle.spiral.proofs.euler.long_chord.Goals as goal

pub returns : goal.returns
unfolding long_chord
returns c =
    rw (← c.length-2.ensures, ← c.atan2-th1.ensures, ← c.length.ensures, ← c.atan2-th0.ensures)
    (judged_by _ _ _ _ _ _ c.error_ratio.ensures)
