-- A path all of whose lines come from closed runs of fills, drawn lines as the export rounds them, and how often a plotter point is a start and an end. Definitions only.
use Rattle.std.specs.Prelude.{ℕ, zero, suc, ◌+◌, ◌<◌, ◌≡◌, ◌⊎◌, Bool, false, not, ◌&&◌, cond, List, [], ◌∷◌, ℤ, pos, negsuc, eqb}
use Rattle.std.specs.Float.{binary32}
use Rattle.std.specs.Float.Ieee.{to_bits}
use Rattle.records.specs.Record.{once}
use Rattle.spiral.specs.declared.util.Vec2.{Vec2}
use Rattle.drawing.specs.Sheet.{Event, line, no_count, no_join}
use Rattle.watertight.specs.Fill.{Call, tags, path_at, type_of, drawn_at}
use Rattle.own_lists.specs.Fills.{Outline, ClosedFill, EachOutline, tags_of, times}
use Rattle.hpgl.specs.Form.{Line, Range}
use Rattle.hpgl.specs.Rounding.{Taken, point_of}
use Rattle.hpgl.specs.declared.Point.{Point}

-- what is asked of a path of an accepted call
pub record ClosedPath (c : Call) (path : ℕ) : Type 0 where
  pub outlines : List Outline
  pub closed_fills : EachOutline (ClosedFill c) outlines
  -- a tag draws nothing, or in another path, or belongs to one outline, once
  pub nothing_else : (i : ℕ) → i < tags c → (drawn_at c i ≡ []) ⊎ ((path_at c i ≡ path → ⊥) ⊎ (times i (tags_of outlines) ≡ 1))

-- tag i has a segment of the path
abbrev pub own_segment : Call → ℕ → ℕ → Bool
own_segment c path i = not (eqb (type_of c i) 0) && eqb (path_at c i) path

-- the segments of the path among n tags from tag i on
unfoldable pub segments_from : Call → ℕ → ℕ → ℕ → List ℕ
segments_from c path zero i = []
segments_from c path (suc n) i = cond (own_segment c path i) (i ∷ segments_from c path n (suc i)) (segments_from c path n (suc i))

-- the same with the outlines in the order of the tags: the segments of the path are theirs, one outline behind the other
pub record ClosedInOrder (c : Call) (path : ℕ) : Type 0 where
  pub outlines : List Outline
  pub closed_fills : EachOutline (ClosedFill c) outlines
  pub in_order : segments_from c path (tags c) 0 ≡ tags_of outlines

-- ---- drawn lines, as the export rounds them

-- a point, by the two words of it that a record has
abbrev pub rounded_point : Vec2 → Point
rounded_point p = point_of (to_bits binary32 p.x) (to_bits binary32 p.y)

-- the lines among events, in order
unfoldable pub rounded : List Event → List Line
rounded [] = []
rounded (line p q ∷ es) = record { from = rounded_point p; to = rounded_point q } ∷ rounded es
rounded (no_count ∷ es) = rounded es
rounded (no_join ∷ es) = rounded es

-- each event is a line, and a range takes both of its ends: no count is missing, and no NaN or infinity is among the numbers
unfoldable pub AllTaken : Range → List Event → Type 0
AllTaken r [] = Unit {0}
AllTaken r (line p q ∷ es) = Taken r (to_bits binary32 p.x) (to_bits binary32 p.y) × Taken r (to_bits binary32 q.x) (to_bits binary32 q.y) × AllTaken r es
AllTaken r (no_count ∷ es) = ⊥
AllTaken r (no_join ∷ es) = ⊥

-- ---- plotter points
unfoldable pub same_number : ℤ → ℤ → Bool
same_number (pos m) (pos n) = eqb m n
same_number (pos m) (negsuc n) = false
same_number (negsuc m) (pos n) = false
same_number (negsuc m) (negsuc n) = eqb m n

unfoldable pub same_point : Point → Point → Bool
same_point p q = same_number p.x q.x && same_number p.y q.y

-- how often p is the start of a line, and how often an end
unfoldable pub starts_at : Point → List Line → ℕ
starts_at p [] = 0
starts_at p (l ∷ ls) = once (same_point p l.from) + starts_at p ls

unfoldable pub ends_at : Point → List Line → ℕ
ends_at p [] = 0
ends_at p (l ∷ ls) = once (same_point p l.to) + ends_at p ls
