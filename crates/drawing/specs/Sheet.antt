-- What is drawn is a list of events, in the source's order; how events are stored is one fold over the sheet, `draw_all`. Definitions only.
use Rattle.std.specs.Prelude.{ℕ, ◌+◌, Bool, true, false, ◌&&◌, cond, List, [], ◌∷◌, Result, Ok, Err, ltb, ℤ, pos, negsuc, Float}
use Rattle.std.proofs.lemmas.List.Edits.{sets}
use Rattle.std.specs.Int.Signed.{lt_z}
use Rattle.std.specs.Float.{binary32}
use Rattle.std.specs.Float.Ieee.{to_bits, to_signed}
use Rattle.maths.specs.Numbers.{floor_of, ceil_of}
use Rattle.records.specs.Record.{record_words, place_of, count as recordCount}
use Rattle.refusals.specs.declared.LineEnd.TheVariants.{Start, End}
use Rattle.refusals.specs.declared.Refusal.{Refusal}
use Rattle.refusals.specs.declared.Refusal.TheVariants.{NotNumber, NoRoom, NoJoin, NoCount}
use Rattle.spiral.specs.declared.util.Vec2.{Vec2}
use Rattle.spiral.specs.Util.{has_nan, apply_of}
use Rattle.drawing.specs.declared.line.Bbox.{Bbox}
use Rattle.drawing.specs.declared.line.Pen.{Pen}
use Rattle.drawing.specs.declared.line.Stopped.{Stopped}

-- ---- events

-- a line between device points; a subdivision count that is NaN; a join where the style names none
pub data Event : Type 0 where
  line : Vec2 → Vec2 → Event
  no_count no_join : Event

-- a line between local points, in device space
abbrev pub line_through : List Float → Vec2 → Vec2 → Event
line_through z p q = line (apply_of z p) (apply_of z q)

-- ---- the box
abbrev pub IntBbox : Type 0
IntBbox = Bbox ℤ

unfoldable pub lower_of : ℤ → ℤ → ℤ
lower_of a b = cond (lt_z b a) b a

unfoldable pub higher_of : ℤ → ℤ → ℤ
higher_of a b = cond (lt_z a b) b a

unfoldable pub empty_box : IntBbox
empty_box = record { x0 = pos 2147483647; y0 = pos 2147483647; x1 = negsuc 2147483647; y1 = negsuc 2147483647 }

-- a box that takes a point in: the floors and the ceilings of its coordinates, as i32
unfoldable pub box_with : IntBbox → Vec2 → IntBbox
box_with b p =
    record {
      x0 = lower_of b.x0 (to_signed 31 (floor_of p.x));
      y0 = lower_of b.y0 (to_signed 31 (floor_of p.y));
      x1 = higher_of b.x1 (to_signed 31 (ceil_of p.x));
      y1 = higher_of b.y1 (to_signed 31 (ceil_of p.y));
    }

-- ---- the sheet

-- the answer so far: the pen, or why no more is drawn, and how many whole lines are stored
abbrev pub Drawn : Type 0
Drawn = Result Pen Stopped

abbrev pub halt : {A : Type 0} → Refusal → ℕ → Result A Stopped
halt why n = Err (record { why = why; count = n })

-- the lent words, and the answer so far
pub record Sheet : Type 0 where
  pub words : List ℕ
  pub drawn : Drawn

abbrev pub sheet : List ℕ → Drawn → Sheet
sheet ws d = record { words = ws; drawn = d }

-- the six words of a line: its path, the tag that drew it, its two points
abbrev pub record_of : ℕ → ℕ → Vec2 → Vec2 → List ℕ
record_of path tag p q = record_words path tag (to_bits binary32 p.x) (to_bits binary32 p.y) (to_bits binary32 q.x) (to_bits binary32 q.y)

-- one more line has room, and does not make the count 4,294,967,296
unfoldable pub has_room : List ℕ → ℕ → Bool
has_room ws n = ltb n 4294967295 && ltb n (recordCount ws)

-- the pen behind a line: one line more, and the box with its points
abbrev pub pen_behind : Pen → Vec2 → Vec2 → Pen
pen_behind pen p q = record { count = pen.count + 1; tag = pen.tag; bbox = box_with (box_with pen.bbox p) q }

-- a line at the pen: whether its start has a NaN, then whether its end has, then whether it has room
unfoldable pub stored : Bool → Bool → Bool → ℕ → List ℕ → Pen → Vec2 → Vec2 → Sheet
stored true end room path ws pen p q = sheet ws (halt (NotNumber Start) pen.count)
stored false true room path ws pen p q = sheet ws (halt (NotNumber End) pen.count)
stored false false false path ws pen p q = sheet ws (halt NoRoom pen.count)
stored false false true path ws pen p q =
    sheet (sets ws (place_of pen.count) (record_of path pen.tag p q)) (Ok (pen_behind pen p q))

unfoldable pub draw_on : ℕ → List ℕ → Pen → Event → Sheet
draw_on path ws pen (line p q) = stored (has_nan p) (has_nan q) (has_room ws pen.count) path ws pen p q
draw_on path ws pen no_count = sheet ws (halt NoCount pen.count)
draw_on path ws pen no_join = sheet ws (halt NoJoin pen.count)

-- one event; a stopped sheet takes no more
unfoldable pub draw : ℕ → List ℕ → Drawn → Event → Sheet
draw path ws (Ok pen) e = draw_on path ws pen e
draw path ws (Err s) e = sheet ws (Err s)

unfoldable pub draw_all : ℕ → Sheet → List Event → Sheet
draw_all path s [] = s
draw_all path s (e ∷ es) = draw_all path (draw path s.words s.drawn e) es

-- ---- what an answer says

-- how many lines are stored
abbrev pub count_of : Drawn → ℕ
count_of (Ok pen) = pen.count
count_of (Err s) = s.count

unfoldable pub is_stopped : Drawn → Bool
is_stopped (Ok pen) = false
is_stopped (Err s) = true
