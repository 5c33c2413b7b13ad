use Rattle.svg.proofs.Walks.{Here, to_go}
use Rattle.svg.proofs.reader.read.Given as goal

abbrev pub invariant-loop-i : goal.invariant-loop-i
invariant-loop-i l = Here l.text l.initial.pen l.initial.tags l.initial.points l.pen l.tags l.points l.w l.i

abbrev pub decreases-loop-i : goal.decreases-loop-i
decreases-loop-i l = to_go l.text l.w l.i
