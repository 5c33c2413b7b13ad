-- `pattern::commands::put_spots` meets its contract: the points that were gone over are set. Assumes nothing.
use Prim.Native.Nat.{◌+◌}
use mathlib.Core.Path.{◌≡◌}
use lib.ListN.{length, take}
use lib.Seq.{sets}
use Rattle.pattern.specs.Commands.{words_of}
use Rattle.pattern.proofs.commands.put_spots.Given as goal

abbrev pub invariant-loop-spot : goal.invariant-loop-spot
invariant-loop-spot l = record {
  place : l.k ≡ l.at + length (words_of (take l.spot-index l.spots));
  written : l.points ≡ sets l.initial.points l.at (words_of (take l.spot-index l.spots));
}
