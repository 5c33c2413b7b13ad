-- What one tag does. Definitions only.
use Rattle.std.specs.Prelude.{ℕ, ◌+◌, ◌-◌, ◌%◌, ◌^◌, cond, List, Ok, Err, Some, None}
use Rattle.refusals.specs.Refusals.{Read}
use Rattle.refusals.specs.declared.Refusal.{Refusal}
use Rattle.drawing.specs.Sheet.{IntBbox, Event, Sheet, sheet, empty_box, draw_all, Drawn, halt}
use Rattle.drawing.specs.declared.line.Pen.{Pen}
use Rattle.scene.specs.Tags.{bit}
use Rattle.flatten.specs.Boxes.{no_change}
use Rattle.flatten.specs.Tag.{is_path, head_at, events_at}
use Rattle.flatten.specs.declared.boxes.Change.{Change}
use Rattle.flatten.specs.declared.call.Layout.{Layout}
use Rattle.flatten.specs.declared.call.Turn.{Turn}
use Rattle.flatten.specs.declared.tag.Head.{Head}

unfoldable pub drawn_of : ℕ → Pen → List ℕ → Read (List Event) → Sheet
drawn_of path pen ws (Ok es) = draw_all path (sheet ws (Ok pen)) es
drawn_of path pen ws (Err why) = sheet ws (halt why pen.count)

-- ---- the second word of a line's record, by the index of the tag that drew it

-- the index, modulo 2^32
abbrev pub tag_word : ℕ → ℕ
tag_word i = i % 2 ^ 32

-- 0: the scope paper's, with which no tag is told
abbrev pub no_word : ℕ → ℕ
no_word i = 0

-- ---- what one tag does, with either word

-- each tag draws with a box of its own, behind the lines stored before
abbrev pub fresh_pen : (ℕ → ℕ) → Turn → Pen
fresh_pen word t = record { count = t.count; tag = word t.tag; bbox = empty_box }

-- ---- where the call stands then

-- a path tag marks its path's box: draw flag 1 for even-odd, and the transform index
unfoldable pub change_of : Head → IntBbox → Change
change_of h b =
    record { mark = cond (is_path h) (Some (record { draw_flags = bit h.flags 0x40000000; trans_ix = h.tag.monoid.trans_ix })) None; bbox = b }

-- after a stop no tag is left, and nothing is merged
unfoldable pub turn_of : Turn → Head → Drawn → Turn
turn_of t h (Ok pen) =
    record {
      left = t.left - 1;
      tag = (t.tag + 1) % 2 ^ 64;
      count = pen.count;
      stop = None;
      at = h.tag.monoid.path_ix;
      change = change_of h pen.bbox;
    }
turn_of t h (Err s) =
    record { left = 0; tag = t.tag; count = s.count; stop = Some s.why; at = h.tag.monoid.path_ix; change = change_of h empty_box }

-- a tag that is refused at its head changes no box
unfoldable pub refused_at : Turn → Refusal → Turn
refused_at t why =
    record {
      left = 0;
      tag = t.tag;
      count = t.count;
      stop = Some why;
      at = 0;
      change = no_change;
    }

-- where the call stands behind a tag, and the lent words then
pub record Stepped : Type 0 where
  pub turn : Turn
  pub lines : List ℕ

abbrev pub stepped : Turn → List ℕ → Stepped
stepped t ws = record { turn = t; lines = ws }

abbrev pub behind : Turn → Head → Sheet → Stepped
behind t h s = stepped (turn_of t h s.drawn) s.words

unfoldable pub step_from_by : (ℕ → ℕ) → Read Head → Layout → List ℕ → List ℕ → List ℕ → Turn → Stepped
step_from_by word (Ok h) layout scene prefixes lines t =
    behind t h (drawn_of h.tag.monoid.path_ix (fresh_pen word t) lines (events_at layout scene prefixes t.tag h))
step_from_by word (Err why) layout scene prefixes lines t = stepped (refused_at t why) lines

unfoldable pub step_by : (ℕ → ℕ) → Layout → List ℕ → List ℕ → List ℕ → ℕ → Turn → Stepped
step_by word layout scene prefixes lines n t = step_from_by word (head_at layout scene prefixes n t.tag) layout scene prefixes lines t

-- the step of this call, whose lines tell their tag
abbrev pub step_of : Layout → List ℕ → List ℕ → List ℕ → ℕ → Turn → Stepped
step_of = step_by tag_word
