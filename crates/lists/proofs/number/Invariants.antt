-- `lists::number` meets its contract: so far the number is that of the digits passed. Assumes nothing.
use mathlib.Core.Path.{◌≡◌}
use Rattle.lists.specs.Lists.{digits_at}
use Rattle.lists.proofs.number.Given as goal

abbrev pub invariant-loop-b : goal.invariant-loop-b
invariant-loop-b l = l.w ≡ digits_at l.digits 0 l.b-index
