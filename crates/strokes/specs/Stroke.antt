-- An open stroke subpath of a call, and what is asked of it. Definitions only.
use Rattle.std.specs.Prelude.{ℕ, zero, suc, ◌+◌, ◌%◌, ◌<◌, ◌≤◌, ◌≡◌, Bool, true, false, ◌&&◌, ◌||◌, cond, List, [], ◌∷◌, ◌++◌, T, eqb, Float, Ok}
use Rattle.std.specs.Int.Bits.{bit_and}
use Rattle.std.specs.Float.{binary32}
use Rattle.std.specs.Float.Ieee.{of_bits, lt}
use Rattle.laws.specs.Binary32.{◌⊗◌, dec, whole}
use Rattle.spiral.specs.Util.{sub_of, normalize_of, eq_of}
use Rattle.spiral.specs.declared.util.Vec2.{Vec2}
use Rattle.drawing.specs.Cubic.{point, start_tangent}
use Rattle.drawing.specs.Sheet.{Event}
use Rattle.drawing.specs.Join.{corners_of, both_sides}
use Rattle.drawing.specs.declared.join.Corners.{Corners}
use Rattle.segment.specs.Segment.{steady_of, tangents_of, edges_of}
use Rattle.scene.specs.Tags.{bit}
use Rattle.scene.specs.Reading.{wide, marker, cubic_of, floats_at, width_of}
use Rattle.watertight.specs.Fill.{Call, tags, head_of, type_of, first_of, transform_words, Meets, stored_by}
use Rattle.strokes.specs.Number.{keys_are}

-- ---- one join

-- half the line width, as f32 has it
unfoldable pub half_width : Float → Float
half_width width = dec 5 1 ⊗ width

-- the corners of the join behind the cubic ps, where the next segment starts along the tangent next: front0 and front1 on side +, back0 and back1 on side -
unfoldable pub join_corners : List Vec2 → Float → Vec2 → Corners
join_corners ps width next =
    let e = edges_of (tangents_of ps next) (half_width width) in
    corners_of (point ps 3) e.n_prev e.n_next

-- ---- a stroked segment of a call

-- the cubic of tag i, read as a stroke's: a quad that ends its subpath is the line between its last two points
unfoldable pub stroke_cubic : Call → ℕ → List Vec2
stroke_cubic c i =
    let t = (head_of c i).tag in
    cubic_of (t.tag_byte % 4) (marker t.tag_byte true) c.scene (wide t.tag_byte) (c.layout.data_base + t.monoid.pathseg_offset)

-- where that starts, and where it ends
abbrev pub start_point : Call → ℕ → Vec2
start_point c i = point (stroke_cubic c i) 0

abbrev pub end_point : Call → ℕ → Vec2
end_point c i = point (stroke_cubic c i) 3

-- the tangent at that start
abbrev pub start_along : Call → ℕ → Vec2
start_along c i = start_tangent (stroke_cubic c i)

-- whether its tag has the end bit
abbrev pub ends_subpath : Call → ℕ → Bool
ends_subpath c i = eqb (bit (head_of c i).tag.tag_byte 0x04) 1

-- the words of a style: its flags, and the line width
pub record Style : Type 0 where
  pub flags : ℕ
  pub width : ℕ

-- half the line width of a style
abbrev pub half_of_style : Style → Float
half_of_style s = half_width (of_bits binary32 s.width)

-- tag i gets its turn, has a segment, and is drawn under this style and these six words of a transform
pub record Stroked (c : Call) (s : Style) (z : List ℕ) (i : ℕ) : Type 0 where
  pub in_call : i < tags c
  pub segment : eqb (type_of c i) 0 ≡ false
  pub flags : (head_of c i).flags ≡ s.flags
  pub width : width_of c.scene c.layout.style_base (head_of c i).tag.monoid.style_ix ≡ Ok s.width
  pub transform : transform_words c i ≡ z

-- ---- an open stroke subpath: n segments, which are the tags from i on, and directly behind them its cap marker, tag i + n

-- the n tags from i on
unfoldable pub run : ℕ → ℕ → List ℕ
run i zero = []
run i (suc n) = i ∷ run (suc i) n

-- the style is a stroke
abbrev pub IsStroke : Style → Type 0
IsStroke s = eqb (bit s.flags 0x80000000) 1 ≡ true

-- its half width is above 0
abbrev pub HasWidth : Style → Type 0
HasWidth s = lt (whole 0) (half_of_style s) ≡ true

-- all tags from i on, the marker i + n among them, get their turn, under one style and one transform
abbrev pub AllStroked : Call → Style → List ℕ → ℕ → ℕ → Type 0
AllStroked c s z i n = (k : ℕ) → i ≤ k → k ≤ i + n → Stroked c s z k

-- the segments do not end the subpath
abbrev pub GoesOn : Call → ℕ → ℕ → Type 0
GoesOn c i n = (k : ℕ) → i ≤ k → k < i + n → ends_subpath c k ≡ false

-- each segment starts where the one before ended, compared as numbers, as in demand 3
abbrev pub Follows : Call → ℕ → ℕ → Type 0
Follows c i n = (k : ℕ) → i ≤ k → suc k < i + n → Meets c k (suc k)

-- the marker ends the subpath and is no line, so the subpath is open
abbrev pub IsMarker : Call → ℕ → Type 0
IsMarker c m = (ends_subpath c m ≡ true) × (eqb (type_of c m) 1 ≡ false)

-- the marker starts where tag i starts, compared as numbers
abbrev pub StartsAt : Call → ℕ → ℕ → Type 0
StartsAt c m i = T (eq_of (start_point c m) (first_of c i))

-- the marker's normalised tangent equals that of tag i's start after the small-tangent rule
abbrev pub PointsAlong : Call → ℕ → ℕ → Type 0
PointsAlong c m i = T (eq_of (normalize_of (sub_of (end_point c m) (start_point c m))) (normalize_of (steady_of (start_along c i))))

pub record OpenStroke (c : Call) (i n : ℕ) : Type 0 where
  pub style : Style
  pub z : List ℕ
  pub some : 0 < n
  pub stroke : IsStroke style
  pub wide : HasWidth style
  pub stroked : AllStroked c style z i n
  pub goes_on_lem : GoesOn c i n
  pub follows : Follows c i n
  pub marker : IsMarker c (i + n)
  pub starts_at_lem : StartsAt c (i + n) i
  pub along : PointsAlong c (i + n) i

-- ---- bevel joins

-- the style's join is bevel, and neither miter nor round
abbrev pub is_bevel : Style → Bool
is_bevel s = eqb (bit_and s.flags 0x30000000) 0

-- the corners of the join between tags k and k + 1: front0 and front1 on side +, back0 and back1 on side -, before the transform
abbrev pub corners_at : Call → Style → ℕ → Corners
corners_at c s k = join_corners (stroke_cubic c k) (of_bits binary32 s.width) (start_along c (suc k))

-- two corners are the same point, as numbers, on side + and on side -
abbrev pub plus_coincides : Call → Style → ℕ → Bool
plus_coincides c s k = eq_of (corners_at c s k).front0 (corners_at c s k).front1

abbrev pub minus_coincides : Call → Style → ℕ → Bool
minus_coincides c s k = eq_of (corners_at c s k).back0 (corners_at c s k).back1

-- where the joins are bevel, the two sides of each both coincide or both are apart
abbrev pub BevelsAgree : Call → Style → ℕ → ℕ → Type 0
BevelsAgree c s i n = is_bevel s ≡ true → (k : ℕ) → i ≤ k → suc k < i + n → plus_coincides c s k ≡ minus_coincides c s k

-- the two lines of the join between tags k and k + 1 that a bevel join leaves out: it draws neither where one of its sides coincides
unfoldable pub left_out : Call → Style → List ℕ → ℕ → List Event
left_out c s z k = cond (is_bevel s && (plus_coincides c s k || minus_coincides c s k)) (both_sides (floats_at z 0) (corners_at c s k)) []

-- what the joins between the n segments from tag i on leave out
unfoldable pub all_left_out : Call → Style → List ℕ → ℕ → ℕ → List Event
all_left_out c s z i zero = []
all_left_out c s z i (suc zero) = []
all_left_out c s z i (suc (suc n)) = left_out c s z i ++ all_left_out c s z (suc i) (suc n)

-- ---- the lent words after the call

-- how often the words x and y, -0 taken for +0, stand at a place of the records of these tags
abbrev pub stored : Call → ℕ → ℕ → ℕ → List ℕ → ℕ
stored c at x y = stored_by c (keys_are x y) at
