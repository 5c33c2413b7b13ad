-- `sheets::tags::total_in` meets its contract. Assumes nothing.
use Prim.Native.Nat.{◌≤◌, ◌+◌}
use mathlib.Core.Path.{◌≡◌}
use lib.ListN.{length, drop}
use Rattle.sheets.specs.Moving.{total}
use Rattle.sheets.proofs.tags.total_in.Given as goal

abbrev pub invariant-loop-tag : goal.invariant-loop-tag
invariant-loop-tag l = (l.tag-index ≤ length l.tags) × (l.sum ≤ l.limit) × (total l.tags ≡ l.sum + total (drop l.tag-index l.tags))
