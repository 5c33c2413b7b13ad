-- `mender::near::below` meets its contract. Assumes nothing.
use native.Mathlib.Omega.{arith}
use Rattle.mender.proofs.Halves.{shrinks, halve}
use Rattle.mender.proofs.near.below.Goals as goal

pub loop-u-smaller : goal.loop-u-smaller
loop-u-smaller c =
    let l = c.loop-u in
    let t = shrinks l.u l.v l.w (omega (arith, c.loop-u-test.true, c.digits_of.ensures)) in
    rw (c.half-u.ensures, c.half-v.ensures, c.half-w.ensures) t

pub loop-u-preserved : goal.loop-u-preserved
loop-u-preserved c =
    halve c.loop-u.invariant c.carried-carry.ensures c.half-u.ensures c.half-v.ensures c.half-w.ensures
