-- `roots::square::feed2` meets its contract: what is read so far, with what is left, stays the number that came in, moved up by i digits. Assumes nothing.
use Rattle.std.proofs.Common.{◌^◌, arith}
use Rattle.roots.proofs.Feeding.{fed, grown, bounded}
use Rattle.roots.proofs.square.feed2.Goals as goal

pub step2-s-requires : goal.step2-s-requires
step2-s-requires c = let v = c.loop.invariant in (bounded _ _ _ _ (2 ^ 40) v.2 (omega arith) c.requires.1, v.0, omega arith)

pub loop-preserved : goal.loop-preserved
loop-preserved c =
    let v = c.loop.invariant in
    let g = c.step2-s.ensures in
    (g.0.rest, omega arith, grown _ _ _ _ v.2 g.1, fed 4 (2 ^ 60) _ _ _ _ _ v.3 g.0.value)
