-- `pattern::commands::all_numbers` meets its contract: the points that were gone over are numbers, so that the rest decides. Assumes nothing.
use mathlib.Core.Path.{◌≡◌}
use lib.ListN.{drop}
use Rattle.pattern.specs.Commands.{words_of, numbers}
use Rattle.pattern.proofs.commands.all_numbers.Given as goal

abbrev pub invariant-loop-spot : goal.invariant-loop-spot
invariant-loop-spot l = numbers (words_of l.spots) ≡ numbers (words_of (drop l.spot-index l.spots))
