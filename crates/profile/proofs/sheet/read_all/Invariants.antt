-- `profile::sheet::read_all` meets its contract: the tags before the one reached were read, and their segments are counted. Assumes nothing.
use Prim.Native.Nat.{◌≤◌, ◌-◌}
use mathlib.Core.Path.{◌≡◌}
use Rattle.profile.specs.Reads.{seen}
use Rattle.profile.specs.Rules.{segments}
use Rattle.profile.specs.Walk.{AllRead}
use Rattle.profile.proofs.sheet.read_all.Given as goal

abbrev pub invariant-loop-i : goal.invariant-loop-i
invariant-loop-i l = (l.i ≤ l.n) × (l.total ≡ segments (seen l.given) l.i) × AllRead (seen l.given) l.i

abbrev pub decreases-loop-i : goal.decreases-loop-i
decreases-loop-i l = l.n - l.i
