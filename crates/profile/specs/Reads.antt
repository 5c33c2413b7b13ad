-- What is read of each tag, by flattening's own reads: no box is missing, and nothing is drawn. Definitions only.
use Rattle.std.specs.Prelude.{ℕ, ◌*◌, ◌%◌, ◌^◌, Bool, true, false, List, eqb, Float, Ok}
use Rattle.refusals.specs.Refusals.{Read}
use Rattle.scene.specs.Reading.{transform_of}
use Rattle.flatten.specs.Tag.{◌>>=◌, head_at, is_stroke, points_at, shape_at}
use Rattle.flatten.specs.declared.call.Layout.{Layout}
use Rattle.flatten.specs.declared.tag.Head.{Head}
use Rattle.flatten.specs.declared.tag.Given.{Given as Lent}

-- what is tested: a layout, a scene and its prefixes, as a call takes them
pub record Given : Type 0 where
  pub layout : Layout
  pub scene : List ℕ
  pub prefixes : List ℕ

abbrev pub given : Layout → List ℕ → List ℕ → Given
given layout scene prefixes = record { layout = layout; scene = scene; prefixes = prefixes }

-- as the code holds it, the lists lent
abbrev pub seen : Lent → Given
seen l = given l.layout l.scene.now l.prefixes.now

-- 256 tags to a workgroup
abbrev pub tags : Given → ℕ
tags g = g.layout.n_wg * 256

-- the tag with its style's flags; 2^32 boxes are one for each path that a tag can name
abbrev pub read_head : Given → ℕ → Read Head
read_head g i = head_at g.layout g.scene g.prefixes (2 ^ 32) i

abbrev pub no_segment : Head → Bool
no_segment h = eqb (h.tag.tag_byte % 4) 0

-- the six numbers of its transform, be they finite or not: refusal 9 is not told here
abbrev pub read_transform : Given → Head → Read (List Float)
read_transform g h = transform_of g.scene g.layout.transform_base h.tag.monoid.trans_ix

-- behind the head, a segment has its transform read, then its points, then what a stroke needs
unfoldable pub rest_by : Bool → Given → ℕ → Head → Read Head
rest_by true g i h = Ok h
rest_by false g i h =
    read_transform g h
    >>= λ z. points_at g.layout g.scene (is_stroke h) h.tag
    >>= λ ps. shape_at (is_stroke h) g.layout g.scene g.prefixes i h
    >>= λ s. Ok h

unfoldable pub read_at : Given → ℕ → Read Head
read_at g i = read_head g i >>= λ h. rest_by (no_segment h) g i h
