-- `scene::reading::read_path_segment` meets its contract. Assumes nothing.
use Rattle.std.proofs.Common.{sym, ◌∙◌, arith}
use Rattle.scene.specs.Reading.{segment_of}
use Rattle.scene.proofs.Points.{inside}
use Rattle.scene.proofs.reading.read_path_segment.Goals as goal

pub read_cubic-requires : goal.read_cubic-requires
read_cubic-requires c =
    (omega arith, inside _ _ _ c.args.scene.now _ (sym c.in_reach.ensures ∙ c.if-not-in_reach.false))

pub returns-then-not-in_reach : goal.returns-then-not-in_reach
unfolding segment_of
returns-then-not-in_reach c = rw (← c.is_wide-wide.ensures, sym c.in_reach.ensures ∙ c.if-not-in_reach.true)

pub returns : goal.returns
unfolding segment_of
returns c =
    rw (c.read_cubic.ensures, c.is_marker.ensures, ← c.is_wide-wide.ensures, sym c.in_reach.ensures ∙ c.if-not-in_reach.false)
