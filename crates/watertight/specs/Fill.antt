-- A call, what each of its tags draws, which of them are filled segments, and closed runs of these. Definitions only.
use Rattle.std.specs.Prelude.{ℕ, zero, suc, ◌+◌, ◌*◌, ◌%◌, ◌^◌, ◌<◌, ◌≡◌, Bool, false, List, [], ◌∷◌, ◌++◌, T, eqb, length, take, drop, Ok, Err}
use Rattle.records.specs.Record.{place_of, tally_of}
use Rattle.spiral.specs.Util.{eq_of}
use Rattle.spiral.specs.declared.util.Vec2.{Vec2}
use Rattle.refusals.specs.Refusals.{Read}
use Rattle.drawing.specs.Sheet.{Event}
use Rattle.curve.specs.Chain.{written}
use Rattle.scene.specs.Tags.{sums, tag_data}
use Rattle.scene.specs.Reading.{wide, point_words, point_at, floats_at}
use Rattle.flatten.specs.Tag.{◌>>=◌, head_at, events_at, is_stroke}
use Rattle.flatten.specs.Call.{Outcome, said, call_of}
use Rattle.flatten.specs.declared.boxes.PathBox.{PathBox}
use Rattle.flatten.specs.declared.call.Layout.{Layout}
use Rattle.flatten.specs.declared.tag.Head.{Head}
use Rattle.watertight.specs.Count.{bits_are}

-- ---- a call: what it is given, and what it is lent

pub record Call : Type 0 where
  pub layout : Layout
  pub scene : List ℕ
  pub prefixes : List ℕ
  pub boxes : List PathBox
  pub lines : List ℕ

abbrev pub outcome : Call → Outcome
outcome c = call_of c.layout c.scene c.prefixes c.boxes c.lines

-- the answer is number 0 and a count; its workgroups are a u32, as the layout's type has it
pub record Accepted (c : Call) : Type 0 where
  pub u32 : c.layout.n_wg < 2 ^ 32
  pub count : ℕ
  pub answer : (outcome c).answer ≡ said 0 0 count

-- 256 tags to a workgroup
abbrev pub tags : Call → ℕ
tags c = c.layout.n_wg * 256

-- ---- what tag i draws

abbrev pub read_head : Call → ℕ → Read Head
read_head c i = head_at c.layout c.scene c.prefixes (length c.boxes) i

abbrev pub read_events : Call → ℕ → Head → Read (List Event)
read_events c i h = events_at c.layout c.scene c.prefixes i h

-- what was found; a refused read, which no accepted call has, stands for a tag that draws nothing
unfoldable pub head_or : Read Head → Head
head_or (Ok h) = h
head_or (Err why) = record { tag = tag_data 0 (sums 0 0 0 0); flags = 0 }

unfoldable pub events_or : Read (List Event) → List Event
events_or (Ok es) = es
events_or (Err why) = []

-- the tag with its style's flags
unfoldable pub head_of : Call → ℕ → Head
head_of c i = head_or (read_head c i)

abbrev pub path_at : Call → ℕ → ℕ
path_at c i = (head_of c i).tag.monoid.path_ix

unfoldable pub drawn_at : Call → ℕ → List Event
drawn_at c i = events_or (read_head c i >>= read_events c i)

-- ---- a filled segment

-- its type: 0 none, 1 line, 2 quad, 3 cubic
abbrev pub type_of : Call → ℕ → ℕ
type_of c i = (head_of c i).tag.tag_byte % 4

-- its point k, as read
unfoldable pub point_of : Call → ℕ → ℕ → Vec2
point_of c i k =
    let t = (head_of c i).tag in
    let w = wide t.tag_byte in
    point_at w c.scene (c.layout.data_base + t.monoid.pathseg_offset + k * point_words w)

abbrev pub first_of : Call → ℕ → Vec2
first_of c i = point_of c i 0

abbrev pub last_of : Call → ℕ → Vec2
last_of c i = point_of c i (type_of c i)

-- the six words of its transform
abbrev pub transform_words : Call → ℕ → List ℕ
transform_words c i = take 6 (drop (c.layout.transform_base + (head_of c i).tag.monoid.trans_ix * 6) c.scene)

-- a point as it is written under six words z: through the transform, and then through the identity
abbrev pub written_by : List ℕ → Vec2 → Vec2
written_by z p = written (floats_at z 0) p

-- tag i has a segment, its style is no stroke, and its transform is the six words z
pub record Filled (c : Call) (z : List ℕ) (i : ℕ) : Type 0 where
  pub in_call : i < tags c
  pub segment : eqb (type_of c i) 0 ≡ false
  pub no_stroke : is_stroke (head_of c i) ≡ false
  pub transform : transform_words c i ≡ z

-- ---- a run of tags: i, and js behind it

unfoldable pub Each : (ℕ → Type 0) → List ℕ → Type 0
Each P [] = Unit {0}
Each P (i ∷ is) = P i × Each P is

-- tag j starts where tag i ended, compared as numbers: +0 equals -0
abbrev pub Meets : Call → ℕ → ℕ → Type 0
Meets c i j = T (eq_of (last_of c i) (first_of c j))

-- each starts where the one before ended
unfoldable pub Follows : Call → ℕ → List ℕ → Type 0
Follows c i [] = Unit {0}
Follows c i (j ∷ js) = Meets c i j × Follows c j js

-- filled segments under the same six words, each starting where the one before ended
pub record Run (c : Call) (i : ℕ) (js : List ℕ) : Type 0 where
  pub z : List ℕ
  pub filled : Each (Filled c z) (i ∷ js)
  pub follows : Follows c i js

unfoldable pub final : ℕ → List ℕ → ℕ
final i [] = i
final i (j ∷ js) = final j js

-- the last ends where the first began
abbrev pub Closed : Call → ℕ → List ℕ → Type 0
Closed c i js = Meets c (final i js) i

-- the lines that the call draws for these tags
unfoldable pub lines_of : Call → List ℕ → List Event
lines_of c [] = []
lines_of c (i ∷ is) = drawn_at c i ++ lines_of c is

-- ---- the lent words after the call

-- how many lines the tags before i draw
unfoldable pub count_before : Call → ℕ → ℕ
count_before c zero = 0
count_before c (suc i) = count_before c i + length (drawn_at c i)

-- the records of a tag stand behind those of all tags before it
abbrev pub records_from : Call → ℕ → List ℕ
records_from c i = drop (place_of (count_before c i)) (outcome c).lines

-- of how many records of these tags it holds that `is` is true of the path and of the words at a place
unfoldable pub stored_by : Call → (ℕ → ℕ → ℕ → Bool) → ℕ → List ℕ → ℕ
stored_by c is at [] = 0
stored_by c is at (i ∷ js) = tally_of is at (records_from c i) (length (drawn_at c i)) + stored_by c is at js

-- how often the words x and y stand side by side at a place of the records of these tags: a line's start stands at place 2, its end at place 4
abbrev pub stored : Call → ℕ → ℕ → ℕ → List ℕ → ℕ
stored c at x y = stored_by c (bits_are x y) at
