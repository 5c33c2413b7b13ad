-- Where a caller puts what commands wrote, and what is decoded there by the scene's own definitions. Definitions only.
use Rattle.std.specs.Prelude.{ℕ, zero, suc, ◌+◌, ◌*◌, ◌/◌, ◌%◌, ◌^◌, ◌<◌, ◌≤◌, ◌≡◌, Bool, true, false, ◌&&◌, cond, List, [], ◌∷◌, ◌++◌, eqb, length, get_or, take, drop, Ok, Err, is_ok}
use Rattle.refusals.specs.Refusals.{Read}
use Rattle.scene.specs.Tags.{bit, less, tag_of}
use Rattle.scene.specs.Reading.{wide, segment_of, flags_of}
use Rattle.scene.specs.Fresh.{byte_of, sums_to, Fresh}
use Rattle.scene.specs.declared.tags.PathTagData.{PathTagData}
use Rattle.pattern.specs.Commands.{Segment, spots, target, Command, Outcome}
use Rattle.pattern.specs.Meaning.{Subpath, nothing, meant, fresh, after, accepted}
use Rattle.pattern.specs.declared.pen.Spot.{Spot}
use Rattle.pattern.specs.declared.pen.Open.TheVariants.{Nothing}
use Rattle.watertight.specs.Count.{starts, ends}
use Rattle.watertight.specs.Fill.{Call, Run, Closed, lines_of, stored}

-- ---- what commands wrote

-- what they leave, with a fresh pen and these buffers
abbrev pub left : List ℕ → List ℕ → List Command → Outcome
left tags points cs = after (fresh tags points) cs

-- the subpaths that the accepted ones mean
abbrev pub subpaths : List ℕ → List ℕ → List Command → List Subpath
subpaths tags points cs = meant nothing (accepted (fresh tags points) cs)

-- an end finished them: nothing is open
abbrev pub Finished : Outcome → Type 0
Finished o = o.pen.place.opened ≡ Nothing

-- what the pen counts
abbrev pub drawn_tags : Outcome → List ℕ
drawn_tags o = take o.pen.tags o.tags

abbrev pub drawn_points : Outcome → List ℕ
drawn_points o = take o.pen.points o.points

-- ---- where they stand

abbrev pub tag_words : Call → List ℕ
tag_words c = drop c.layout.tag_base c.scene

-- the call's prefixes are those of a fresh scan
abbrev pub FreshCall : Call → Type 0
FreshCall c = Fresh c.scene c.layout.tag_base c.prefixes

-- where the data of tag i begins: behind what the tags before it take
abbrev pub data_at : Call → ℕ → ℕ
data_at c i = c.layout.data_base + (sums_to (tag_words c) i).pathseg_offset

-- these bytes are the call's tags from tag `at` on, and these words are the data there
pub record Here (c : Call) (at : ℕ) (bytes words : List ℕ) : Type 0 where
  pub byte : (j : ℕ) → j < length bytes → byte_of (tag_words c) (at + j) ≡ get_or bytes j 0
  pub its_data : take (length words) (drop (data_at c at) c.scene) ≡ words

-- the first n tags lie in the scene, and a prefix was lent for each of their words
pub record Lent (c : Call) (f : FreshCall c) (n : ℕ) : Type 0 where
  pub words : c.layout.tag_base + (n + 3) / 4 ≤ length c.scene
  pub prefixes : (n + 3) / 4 ≤ length f.lent / 4

-- the transform and the style that hold at a tag: the last ones begun before it
abbrev pub transform_at : Call → ℕ → ℕ
transform_at c i = less (sums_to (tag_words c) i).trans_ix 1

abbrev pub style_at : Call → ℕ → ℕ
style_at c i = less (sums_to (tag_words c) i).style_ix 2

-- the six words of that transform
abbrev pub six_words : Call → ℕ → List ℕ
six_words c i = take 6 (drop (c.layout.transform_base + transform_at c i * 6) c.scene)

-- the style that holds at a tag is a fill
pub record FillAt (c : Call) (i : ℕ) : Type 0 where
  pub flags : ℕ
  pub read : flags_of c.scene c.layout.style_base (style_at c i) ≡ Ok flags
  pub no_stroke : eqb (bit flags 0x80000000) 1 ≡ false

-- below 2^31 point words, those before counted
abbrev pub Few : Call → ℕ → List ℕ → Type 0
Few c at words = (sums_to (tag_words c) at).pathseg_offset + length words < 2 ^ 31

-- what commands wrote stands in the call, from tag `at` on
pub record Placed (c : Call) (at : ℕ) (o : Outcome) : Type 0 where
  pub here : Here c at (drawn_tags o) (drawn_points o)
  pub few : Few c at (drawn_points o)

-- ---- what is decoded

-- a segment with its start: its points by their words, and whether it ends its subpath
pub record Piece : Type 0 where
  pub points : List Spot
  pub last : Bool

abbrev pub piece : List Spot → Bool → Piece
piece ps b = record { points = ps; last = b }

-- the first n points of some words, two words each
unfoldable pub spots_at : ℕ → List ℕ → List Spot
spots_at zero ws = []
spots_at (suc n) ws = record { x = get_or ws 0 0; y = get_or ws 1 0 } ∷ spots_at n (drop 2 ws)

-- a tag's segment, where its points are f32 and can be read: one point more than its type says
unfoldable pub segment_by : Call → Read PathTagData → List Piece
segment_by c (Ok t) =
    let byte = t.tag_byte in
    let offset = t.monoid.pathseg_offset in
    cond (wide byte && is_ok (segment_of byte false offset c.scene c.layout.data_base))
    (piece (spots_at (byte % 4 + 1) (drop (c.layout.data_base + offset) c.scene)) (eqb (bit byte 0x04) 1) ∷ [])
    []
segment_by c (Err why) = []

-- the segments of n tags from tag i on
unfoldable pub decoded : Call → ℕ → ℕ → List Piece
decoded c i zero = []
decoded c i (suc n) = segment_by c (tag_of c.scene c.layout.tag_base c.prefixes i) ++ decoded c (suc i) n

-- the segments of subpaths, in order; each starts where the one before ended, and the last ends its subpath
unfoldable pub pieces_from : Spot → List Segment → List Piece
pieces_from p [] = []
pieces_from p (g ∷ []) = piece (p ∷ spots g) true ∷ []
pieces_from p (g ∷ h ∷ gs) = piece (p ∷ spots g) false ∷ pieces_from (target g) (h ∷ gs)

unfoldable pub pieces : List Subpath → List Piece
pieces [] = []
pieces (s ∷ ss) = pieces_from s.start s.segments ++ pieces ss

-- ---- which tags draw which subpath

-- n tags from tag i on
unfoldable pub tags_from : ℕ → ℕ → List ℕ
tags_from i zero = []
tags_from i (suc n) = i ∷ tags_from (suc i) n

-- the tags of each subpath, one subpath behind the other
unfoldable pub outlines : ℕ → List Subpath → List (List ℕ)
outlines i [] = []
outlines i (s ∷ ss) = tags_from i (length s.segments) ∷ outlines (i + length s.segments) ss

-- these tags are a closed run in the sense of demand 3
pub record ClosedRun (c : Call) (is : List ℕ) : Type 0 where
  pub first : ℕ
  pub others : List ℕ
  pub tags : is ≡ first ∷ others
  pub run : Run c first others
  pub closed : Closed c first others

-- every point, by its bits, is a line's start as often as an end: among the lines that these tags draw, and in the records that they left in the lent words
pub record Watertight (c : Call) (is : List ℕ) : Type 0 where
  pub drawn : (x y : ℕ) → starts x y (lines_of c is) ≡ ends x y (lines_of c is)
  pub in_records : (x y : ℕ) → stored c 2 x y is ≡ stored c 4 x y is
