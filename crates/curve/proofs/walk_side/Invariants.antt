-- `curve::walk_side` meets its contract: the loop stands at a place of the tree, and what is left there comes to the same.
-- The measure is at most 131,071 at the start and falls at every turn, so there are at most as many turns. Assumes nothing.
use mathlib.Core.List.{List, flatten}
use Prim.Native.Nat.{◌≤◌}
use Rattle.std.specs.Prelude.{Ok}
use Rattle.drawing.specs.Sheet.{Event}
use Rattle.drawing.specs.PageLaws.{Left}
use Rattle.curve.specs.Curve.{front_of, walk}
use Rattle.curve.proofs.Walk.{Here, left}
use Rattle.curve.proofs.walk_side.Given as goal

abbrev pub invariant-loop-side : goal.invariant-loop-side
invariant-loop-side l =
    (es : List Event)
    × Left l.initial.lines (Ok l.initial.nib) (flatten (walk l.side 16 0 (front_of l.initial.last l.initial.lp0)).ranges) l.lines (Ok l.nib) es
    × Here l.side es l.t0_u l.dt (front_of l.last l.lp0)
    × (left l.t0_u l.dt ≤ 131071)

abbrev pub decreases-loop-side : goal.decreases-loop-side
decreases-loop-side l = left l.t0_u l.dt
