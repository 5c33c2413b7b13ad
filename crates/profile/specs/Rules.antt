-- The rules of the profile, one by one, over all tags of a call. Definitions only.
use Rattle.std.specs.Prelude.{ℕ, zero, suc, ◌+◌, ◌*◌, ◌%◌, Bool, true, false, not, ◌&&◌, ◌||◌, cond, List, [], ◌∷◌, eqb, leb, get_or, Ok, Err, Option, Some, None}
use Rattle.std.specs.Cmp.Lexicographic.{pointwise}
use Rattle.std.specs.Float.{binary32}
use Rattle.std.specs.Float.Ieee.{of_bits, eq}
use Rattle.laws.specs.Binary32.{whole}
use Rattle.records.specs.Record.{once}
use Rattle.refusals.specs.Refusals.{Read}
use Rattle.spiral.specs.Util.{eq_of}
use Rattle.spiral.specs.declared.util.Vec2.{Vec2}
use Rattle.scene.specs.Tags.{bit, sums, tag_data}
use Rattle.scene.specs.Reading.{wide, point_words, point_at}
use Rattle.flatten.specs.Tag.{is_path, is_stroke}
use Rattle.flatten.specs.declared.call.Layout.{Layout}
use Rattle.flatten.specs.declared.tag.Head.{Head}
use Rattle.profile.specs.Reads.{Given, tags, read_head, no_segment}
use Rattle.profile.specs.declared.rules.Rule.{Rule}
use Rattle.profile.specs.declared.rules.Rule.TheVariants.{Stroke, EvenOdd, NotWide, Transform, Subpath, TooMany}
use Rattle.profile.specs.declared.rules.Facts.{Facts}

-- ---- a tag

-- what was read; a refused read, behind which no rule is looked at, stands for a tag with nothing
unfoldable pub head_or : Read Head → Head
head_or (Ok h) = h
head_or (Err why) = record { tag = tag_data 0 (sums 0 0 0 0); flags = 0 }

unfoldable pub head_of : Given → ℕ → Head
head_of g i = head_or (read_head g i)

abbrev pub has_segment : Head → Bool
has_segment h = not (no_segment h)

abbrev pub has_end : Head → Bool
has_end h = eqb (bit h.tag.tag_byte 0x04) 1

abbrev pub is_even_odd : Head → Bool
is_even_odd h = eqb (bit h.flags 0x40000000) 1

-- only a segment's end bit ends a subpath
abbrev pub ends : Head → Bool
ends h = has_segment h && has_end h

-- ---- its transform

unfoldable pub six_at : List ℕ → ℕ → List ℕ
six_at ws at = get_or ws at 0 ∷ get_or ws (at + 1) 0 ∷ get_or ws (at + 2) 0 ∷ get_or ws (at + 3) 0 ∷ get_or ws (at + 4) 0 ∷ get_or ws (at + 5) 0 ∷ []

abbrev pub transform_from : Layout → Head → ℕ
transform_from layout h = layout.transform_base + h.tag.monoid.trans_ix * 6

-- the six words of a segment's transform
abbrev pub six_words : Given → ℕ → List ℕ
six_words g i = six_at g.scene (transform_from g.layout (head_of g i))

unfoldable pub same_words : List ℕ → List ℕ → Bool
same_words = pointwise eqb

-- +0 or -0
unfoldable pub is_zero : ℕ → Bool
is_zero w = eq (of_bits binary32 w) (whole 0)

-- no shear: the second and the third number are zero
unfoldable pub straight : List ℕ → Bool
straight ws = is_zero (get_or ws 1 0) && is_zero (get_or ws 2 0)

unfoldable pub aligned_to : List ℕ → List ℕ → Bool
aligned_to ws sheet = same_words ws sheet && straight ws

-- ---- its points

unfoldable pub point_of : Layout → List ℕ → Head → ℕ → Vec2
point_of layout scene h k =
    let w = wide h.tag.tag_byte in
    point_at w scene (layout.data_base + h.tag.monoid.pathseg_offset + k * point_words w)

abbrev pub first_of : Given → ℕ → Vec2
first_of g i = point_of g.layout g.scene (head_of g i) 0

abbrev pub last_of : Given → ℕ → Vec2
last_of g i = point_of g.layout g.scene (head_of g i) ((head_of g i).tag.tag_byte % 4)

-- ---- all tags

-- the segments among the tags before tag i
unfoldable pub segments : Given → ℕ → ℕ
segments g zero = 0
segments g (suc i) = segments g i + once (has_segment (head_of g i))

-- the finished subpaths among them
unfoldable pub subpaths : Given → ℕ → ℕ
subpaths g zero = 0
subpaths g (suc i) = subpaths g i + once (ends (head_of g i))

-- before tag i a subpath is unfinished
unfoldable pub open_at : Given → ℕ → Bool
open_at g zero = false
open_at g (suc i) = cond (has_segment (head_of g i)) (not (has_end (head_of g i))) (open_at g i)

-- the segment with which it began; i where none is unfinished
unfoldable pub beginning : Given → ℕ → ℕ
beginning g zero = 0
beginning g (suc i) = cond (open_at g (suc i)) (beginning g i) (suc i)

-- the first segment of the sheet before tag i; i where there is none
unfoldable pub leading : Given → ℕ → ℕ
leading g zero = 0
leading g (suc i) = cond (eqb (segments g (suc i)) 0) (suc i) (leading g i)

-- what the rules look at
unfoldable pub facts_at : Given → ℕ → Facts
facts_at g i =
    record {
      segment = has_segment (head_of g i);
      path = is_path (head_of g i);
      end = has_end (head_of g i);
      stroke = is_stroke (head_of g i);
      even_odd = is_even_odd (head_of g i);
      wide = wide (head_of g i).tag.tag_byte;
      aligned = aligned_to (six_words g i) (six_words g (leading g i));
      shut = eq_of (last_of g i) (first_of g (beginning g i));
      last = eqb (segments g (tags g)) (segments g (suc i));
      many = leb 4096 (segments g i);
    }

-- ---- the rules

-- no stroke style on segments and path tags
unfoldable pub broken70 : Facts → Bool
broken70 f = (f.segment || f.path) && f.stroke

-- no even-odd bit on them
unfoldable pub broken71 : Facts → Bool
broken71 f = (f.segment || f.path) && f.even_odd

-- f32 points only
unfoldable pub broken72 : Facts → Bool
broken72 f = f.segment && not f.wide

-- one transform for the sheet, with no shear
unfoldable pub broken73 : Facts → Bool
broken73 f = f.segment && not f.aligned

-- every subpath finished by an end bit on a segment and ending on its first point: that end bit tells the one, and the call's last segment the other; no end bit on other tags
unfoldable pub broken74 : Facts → Bool
broken74 f = cond f.segment (cond f.end (not f.shut) f.last) f.end

-- at most 4,096 segments
unfoldable pub broken75 : Facts → Bool
broken75 f = f.segment && f.many

-- the first of them that a tag breaks
unfoldable pub unless : Bool → Rule → Option Rule → Option Rule
unless true rule next = Some rule
unless false rule next = next

unfoldable pub rule_of : Facts → Option Rule
rule_of f =
    unless (broken70 f) Stroke
    (unless (broken71 f) EvenOdd
    (unless (broken72 f) NotWide
    (unless (broken73 f) Transform
    (unless (broken74 f) Subpath
    (unless (broken75 f) TooMany
    None)))))

abbrev pub rule_at : Given → ℕ → Option Rule
rule_at g i = rule_of (facts_at g i)
