-- What a tag needs from the scene, read in the source's order: the first read that fails is the stop. Definitions only.
use Rattle.std.specs.Prelude.{ℕ, ◌+◌, ◌%◌, ◌^◌, Bool, true, false, cond, ◌&&◌, List, [], ◌==◌, from_bits, nat_le, Float, Ok, Err}
use Rattle.std.specs.Float.{binary32}
use Rattle.refusals.specs.Refusals.{Read}
use Rattle.refusals.specs.declared.Refusal.TheVariants.{NoBox, BadTransform}
use Rattle.spiral.specs.declared.util.Vec2.{Vec2}
use Rattle.drawing.specs.Sheet.{Event}
use Rattle.segment.specs.Segment.{neighbor_of, shape_events}
use Rattle.segment.specs.declared.Neighbor.{Neighbor}
use Rattle.segment.specs.declared.Shape.{Shape}
use Rattle.segment.specs.declared.Shape.TheVariants.{Nothing, Fill, StartCap, Stroke}
use Rattle.scene.specs.Tags.{bit, tag_of}
use Rattle.scene.specs.Reading.{segment_of, transform_of, all_finite, flags_of, width_of}
use Rattle.scene.specs.declared.tags.PathTagData.{PathTagData}
use Rattle.flatten.specs.declared.call.Layout.{Layout}
use Rattle.flatten.specs.declared.tag.Head.{Head}
use Rattle.flatten.specs.declared.step.Drawing.{Drawing}

-- ---- reads, one after the other

infixl 1 ◌>>=◌
abbrev pub ◌>>=◌ : {A B : Type 0} → Read A → (A → Read B) → Read B
Ok a >>= f = f a
Err why >>= f = Err why

-- ---- a tag with its style's flags

abbrev pub tag_at : Layout → List ℕ → List ℕ → ℕ → Read PathTagData
tag_at layout scene prefixes ix = tag_of scene layout.tag_base prefixes ix

abbrev pub is_path : Head → Bool
is_path h = bit h.tag.tag_byte 0x10 == 1

-- a path tag needs its path's box
unfoldable pub boxed : ℕ → Head → Read Head
boxed n h = cond (is_path h && nat_le n h.tag.monoid.path_ix) (Err NoBox) (Ok h)

-- the tag's word and its prefix, the style's flags, the path's box
unfoldable pub head_at : Layout → List ℕ → List ℕ → ℕ → ℕ → Read Head
head_at layout scene prefixes n ix =
    tag_at layout scene prefixes ix
    >>= λ t. flags_of scene layout.style_base t.monoid.style_ix
    >>= λ flags. boxed n (record { tag = t; flags = flags })

-- ---- what it draws

abbrev pub points_at : Layout → List ℕ → Bool → PathTagData → Read (List Vec2)
points_at layout scene stroke t = segment_of t.tag_byte stroke t.monoid.pathseg_offset scene layout.data_base

-- six numbers, or 9 where one of them is a NaN or an infinity
unfoldable pub finite_only : List Float → Read (List Float)
finite_only z = cond (all_finite z) (Ok z) (Err BadTransform)

-- the six numbers of its transform, be they finite or not
abbrev pub numbers_at : Layout → List ℕ → Head → Read (List Float)
numbers_at layout scene h = transform_of scene layout.transform_base h.tag.monoid.trans_ix

-- 2 where they are not there comes first
abbrev pub transform_at : Layout → List ℕ → Head → Read (List Float)
transform_at layout scene h = numbers_at layout scene h >>= finite_only

-- the next tag: its word and its prefix, and its points, read as a stroke's
unfoldable pub neighbor_at : Layout → List ℕ → List ℕ → ℕ → Read Neighbor
neighbor_at layout scene prefixes ix =
    tag_at layout scene prefixes ix
    >>= λ t. points_at layout scene true t
    >>= λ ps. Ok (neighbor_of t.tag_byte ps)

-- a tag that ends its subpath draws the start cap where the subpath is open, and nothing where it is closed
unfoldable pub stroke_by : Bool → Bool → Layout → List ℕ → List ℕ → ℕ → Float → Read Shape
stroke_by true true layout scene prefixes ix width = Ok Nothing
stroke_by true false layout scene prefixes ix width = Ok (StartCap width)
stroke_by false closed layout scene prefixes ix width =
    neighbor_at layout scene prefixes ((ix + 1) % 2 ^ 64) >>= λ n. Ok (Stroke width n)

unfoldable pub stroke_at : Layout → List ℕ → List ℕ → ℕ → ℕ → Float → Read Shape
stroke_at layout scene prefixes ix byte width = stroke_by (bit byte 0x04 == 1) (byte % 4 == 1) layout scene prefixes ix width

abbrev pub is_stroke : Head → Bool
is_stroke h = bit h.flags 0x80000000 == 1

-- a stroke: the line width, then the neighbour
unfoldable pub shape_at : Bool → Layout → List ℕ → List ℕ → ℕ → Head → Read Shape
shape_at true layout scene prefixes ix h =
    width_of scene layout.style_base h.tag.monoid.style_ix
    >>= λ w. stroke_at layout scene prefixes ix h.tag.tag_byte (from_bits binary32 w)
shape_at false layout scene prefixes ix h = Ok Fill

-- a tag with no segment draws nothing; else the transform, the points, and what a stroke needs
unfoldable pub events_by : Bool → Layout → List ℕ → List ℕ → ℕ → Head → Read (List Event)
events_by true layout scene prefixes ix h = Ok []
events_by false layout scene prefixes ix h =
    transform_at layout scene h
    >>= λ z. points_at layout scene (is_stroke h) h.tag
    >>= λ ps. shape_at (is_stroke h) layout scene prefixes ix h
    >>= λ s. Ok (shape_events s h.flags z ps)

-- of a tag with a segment: what was read, as its events
abbrev pub drawing_events : Read Drawing → Read (List Event)
drawing_events r = r >>= λ d. Ok (shape_events d.shape d.segment.flags d.segment.transform d.segment.cubic)

unfoldable pub events_at : Layout → List ℕ → List ℕ → ℕ → Head → Read (List Event)
events_at layout scene prefixes ix h = events_by (h.tag.tag_byte % 4 == 0) layout scene prefixes ix h
