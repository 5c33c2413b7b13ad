-- `mender::near::below` meets its contract. Assumes nothing.
use Prim.Native.Nat.{◌+◌}
use Rattle.mender.proofs.Halves.{size, Halving}
use Rattle.mender.proofs.near.below.Given as goal

abbrev pub invariant-loop-u : goal.invariant-loop-u
invariant-loop-u l = Halving l.initial.u l.initial.v l.initial.w l.initial.carry l.u l.v l.w l.carry

abbrev pub decreases-loop-u : goal.decreases-loop-u
decreases-loop-u l = size l.u + size l.v + size l.w
