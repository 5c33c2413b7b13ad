-- How the functions that draw store events: as specs/Sheet.antt says, with the box of the points kept in floats and made whole once. That the two are equal: specs/Dried.antt. Definitions only.
use Rattle.std.specs.Prelude.{ℕ, ◌+◌, ◌≡◌, Bool, true, false, cond, List, [], ◌∷◌, Result, Ok, Err, Float}
use Rattle.std.proofs.lemmas.List.Edits.{sets}
use Rattle.std.specs.Float.{inf}
use Rattle.std.specs.Float.Ieee.{lt, to_signed}
use Rattle.maths.specs.Numbers.{floor_of, ceil_of}
use Rattle.records.specs.Record.{place_of}
use Rattle.refusals.specs.Refusals.{number_of, end_of}
use Rattle.refusals.specs.declared.LineEnd.TheVariants.{Start, End}
use Rattle.refusals.specs.declared.Refusal.{Refusal}
use Rattle.refusals.specs.declared.Refusal.TheVariants.{NotNumber, NoRoom, NoJoin, NoCount}
use Rattle.spiral.specs.declared.util.Vec2.{Vec2}
use Rattle.spiral.specs.Util.{has_nan}
use Rattle.drawing.specs.Sheet.{IntBbox, Event, line, no_count, no_join, Drawn, halt, record_of, has_room}
use Rattle.drawing.specs.declared.line.Bbox.{Bbox}
use Rattle.drawing.specs.declared.line.Pen.{Pen}
use Rattle.drawing.specs.declared.line.Stopped.{Stopped}
use Rattle.drawing.specs.declared.line.Nib.{Nib}

-- ---- the box, in floats
abbrev pub Reach : Type 0
Reach = Bbox Float

unfoldable pub lesser_of : Float → Float → Float
lesser_of a b = cond (lt b a) b a

unfoldable pub greater_of : Float → Float → Float
greater_of a b = cond (lt a b) b a

unfoldable pub empty_reach : Reach
empty_reach = record { x0 = inf false; y0 = inf false; x1 = inf true; y1 = inf true }

unfoldable pub reach_with : Reach → Vec2 → Reach
reach_with r p =
    record {
      x0 = lesser_of r.x0 p.x;
      y0 = lesser_of r.y0 p.y;
      x1 = greater_of r.x1 p.x;
      y1 = greater_of r.y1 p.y;
    }

-- the floors and the ceilings, as i32
unfoldable pub whole_box : Reach → IntBbox
whole_box r =
    record {
      x0 = to_signed 31 (floor_of r.x0);
      y0 = to_signed 31 (floor_of r.y0);
      x1 = to_signed 31 (ceil_of r.x1);
      y1 = to_signed 31 (ceil_of r.y1);
    }

-- ---- the answer while lines are drawn: the nib, or the stop
abbrev pub Ink : Type 0
Ink = Result Nib Stopped

-- as a tag leaves it
unfoldable pub pen_of : Nib → Pen
pen_of nib = record { count = nib.count; tag = nib.tag; bbox = whole_box nib.reach }

unfoldable pub dried_of : Ink → Drawn
dried_of (Ok nib) = Ok (pen_of nib)
dried_of (Err s) = Err s

-- a stop at the nib
unfoldable pub stop_of : Nib → Refusal → Stopped
stop_of nib why = record { why = why; count = nib.count }

-- ---- the page: the lent words, and the answer so far
pub record Page : Type 0 where
  pub words : List ℕ
  pub ink : Ink

abbrev pub page : List ℕ → Ink → Page
page ws d = record { words = ws; ink = d }

abbrev pub nib_behind : Nib → Vec2 → Vec2 → Nib
nib_behind nib p q =
    record { count = nib.count + 1; tag = nib.tag; path = nib.path; reach = reach_with (reach_with nib.reach p) q }

-- a line: whether its start has a NaN, then whether its end has, then whether it has room
unfoldable pub inked : Bool → Bool → Bool → List ℕ → Nib → Vec2 → Vec2 → Page
inked true end room ws nib p q = page ws (halt (NotNumber Start) nib.count)
inked false true room ws nib p q = page ws (halt (NotNumber End) nib.count)
inked false false false ws nib p q = page ws (halt NoRoom nib.count)
inked false false true ws nib p q =
    page (sets ws (place_of nib.count) (record_of nib.path nib.tag p q)) (Ok (nib_behind nib p q))

unfoldable pub ink_on : List ℕ → Nib → Event → Page
ink_on ws nib (line p q) = inked (has_nan p) (has_nan q) (has_room ws nib.count) ws nib p q
ink_on ws nib no_count = page ws (halt NoCount nib.count)
ink_on ws nib no_join = page ws (halt NoJoin nib.count)

unfoldable pub ink_event : List ℕ → Ink → Event → Page
ink_event ws (Ok nib) e = ink_on ws nib e
ink_event ws (Err s) e = page ws (Err s)

unfoldable pub ink_all : Page → List Event → Page
ink_all s [] = s
ink_all s (e ∷ es) = ink_all (ink_event s.words s.ink e) es

-- in numbers: 0 or the refusal's, the end that is no number, the lines stored, the tag, the path and the reach of an answer that is no refusal, and the lent words
pub record Told : Type 0 where
  pub number : ℕ
  pub end : ℕ
  pub count : ℕ
  pub tag : ℕ
  pub path : ℕ
  pub reach : List Reach
  pub words : List ℕ

unfoldable pub told : List ℕ → Ink → Told
told ws (Ok nib) =
    record { number = 0; end = 0; count = nib.count; tag = nib.tag; path = nib.path; reach = nib.reach ∷ []; words = ws }
told ws (Err s) =
    record { number = number_of s.why; end = end_of s.why; count = s.count; tag = 0; path = 0; reach = []; words = ws }

abbrev pub told_of : Page → Told
told_of s = told s.words s.ink

-- ---- the contract of every function that draws: with the words and the answer before, the events leave the words and the answer after
pub record Drew (before : List ℕ) (ink : Ink) (es : List Event) (after : List ℕ) (r : Ink) : Type 0 where
  pub is : told after r ≡ told_of (ink_all (page before ink) es)
