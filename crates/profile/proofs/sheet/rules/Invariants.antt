-- `profile::sheet::rules` meets its contract: the tags before the one reached break no rule, and the trail is theirs. Assumes nothing.
use Prim.Native.Nat.{◌≤◌, ◌-◌}
use Rattle.profile.specs.Reads.{seen}
use Rattle.profile.specs.Walk.{TrailAt}
use Rattle.profile.specs.Passed.{AllFine}
use Rattle.profile.proofs.sheet.rules.Given as goal

abbrev pub invariant-loop-i : goal.invariant-loop-i
invariant-loop-i l = (l.i ≤ l.n) × TrailAt (seen l.given) l.i l.trail × AllFine (seen l.given) l.i

abbrev pub decreases-loop-i : goal.decreases-loop-i
decreases-loop-i l = l.n - l.i
