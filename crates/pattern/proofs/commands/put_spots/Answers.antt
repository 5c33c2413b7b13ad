-- `pattern::commands::put_spots` meets its contract: the points that were gone over are set. Assumes nothing.
use Prim.Native.Nat.{◌+◌}
use mathlib.Core.Path.{refl}
use native.Mathlib.Omega.{arith}
use lib.ListN.{take, length-set, length-take}
use Rattle.pattern.specs.Commands.{words_of}
use Rattle.pattern.proofs.Laws.{words_length, next_place, one_put}
use Rattle.pattern.proofs.commands.put_spots.Goals as goal

pub loop-spot-init : goal.loop-spot-init
unfolding words_of
loop-spot-init c = record { place = omega arith; written = refl }

pub bounds-points-k-in-loop-spot : goal.bounds-points-k-in-loop-spot
bounds-points-k-in-loop-spot c =
    let a = c.args in
    let l = c.loop-spot in
    rw length-set (omega (arith, next_place a.spots.now a.points.now l.points l.spot-index l.k a.at c.loop-spot-test.true l.invariant.place l.invariant.written c.requires))

pub loop-spot-preserved : goal.loop-spot-preserved
loop-spot-preserved c =
    let a = c.args in
    let l = c.loop-spot in
    record {
      place =
          let e = words_length (take l.spot-index a.spots.now) in
          let f = words_length (take (l.spot-index + 1) a.spots.now) in
          let g = length-take l.spot-index a.spots.now in
          let h = length-take (l.spot-index + 1) a.spots.now in
          omega (arith, e, f, g, h, l.invariant.place);
      written = rw l.invariant.written (one_put a.points.now a.spots.now a.at l.spot-index l.k c.loop-spot-test.true l.invariant.place);
    }
