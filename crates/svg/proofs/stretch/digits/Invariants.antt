-- `svg::stretch::digits` meets its contract. Assumes nothing.
use Prim.Native.Nat.{◌-◌}
use lib.ListN.{length}
use Rattle.svg.specs.Stretch.{Digits}
use Rattle.svg.proofs.stretch.digits.Given as goal

abbrev pub invariant-loop-n : goal.invariant-loop-n
invariant-loop-n l = Digits l.text l.start l.held l.counted l.i l.n l.count

abbrev pub decreases-loop-n : goal.decreases-loop-n
decreases-loop-n l = length l.text - l.i
