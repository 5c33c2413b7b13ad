-- What a tag does to its path's box. Definitions only.
use Rattle.std.specs.Prelude.{ℕ, Bool, true, false, ◌||◌, Option, None, Some, List, int_lt, slice_index_or, slice_set}
use Rattle.drawing.specs.Sheet.{IntBbox, lower_of, higher_of, empty_box}
use Rattle.flatten.specs.declared.boxes.PathBox.{PathBox}
use Rattle.flatten.specs.declared.boxes.Mark.{Mark}
use Rattle.flatten.specs.declared.boxes.Change.{Change}

-- like the box of a tag that drew nothing, with 0 0 behind
unfoldable pub fresh_box : PathBox
fresh_box = record { x0 = empty_box.x0; y0 = empty_box.y0; x1 = empty_box.x1; y1 = empty_box.y1; draw_flags = 0; trans_ix = 0 }

-- whether what was drawn has a length, in x or in y
unfoldable pub has_extent : IntBbox → Bool
has_extent b = int_lt b.x0 b.x1 || int_lt b.y0 b.y1

unfoldable pub marked_of : Option Mark → PathBox → PathBox
marked_of (Some m) p = record { x0 = p.x0; y0 = p.y0; x1 = p.x1; y1 = p.y1; draw_flags = m.draw_flags; trans_ix = m.trans_ix }
marked_of None p = p

unfoldable pub merged_of : Bool → PathBox → IntBbox → PathBox
merged_of true p b =
    record {
      x0 = lower_of p.x0 b.x0;
      y0 = lower_of p.y0 b.y0;
      x1 = higher_of p.x1 b.x1;
      y1 = higher_of p.y1 b.y1;
      draw_flags = p.draw_flags;
      trans_ix = p.trans_ix;
    }
merged_of false p b = p

-- flags and transform index are stored where the tag says so, and what was drawn is merged where it has an extent
unfoldable pub changed_of : PathBox → Change → PathBox
changed_of p c = merged_of (has_extent c.bbox) (marked_of c.mark p) c.bbox

-- nothing: no mark, and an empty box
abbrev pub no_change : Change
no_change = record { mark = None; bbox = empty_box }

-- the list with one box changed; past its end nothing is
unfoldable pub changed_at : List PathBox → ℕ → Change → List PathBox
changed_at ps at c = slice_set ps at (changed_of (slice_index_or ps at fresh_box) c)
