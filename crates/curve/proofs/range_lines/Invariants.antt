-- `curve::range_lines` meets its contract: what is left to draw comes to the same. Assumes nothing.
use Prim.Native.Nat.{◌-◌}
use Rattle.std.specs.Prelude.{Ok}
use Rattle.drawing.specs.PageLaws.{Left}
use Rattle.curve.specs.Curve.{lines_of}
use Rattle.curve.proofs.range_lines.Given as goal

abbrev pub invariant-loop-i : goal.invariant-loop-i
invariant-loop-i l =
    Left l.initial.lines (Ok l.initial.nib) (lines_of l.side l.fit (l.n - 1) 1 l.initial.lp0 l.end) l.lines (Ok l.nib) (lines_of l.side l.fit (l.n - l.i) l.i l.lp0 l.end)
