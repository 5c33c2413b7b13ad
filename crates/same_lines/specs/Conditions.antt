-- When a call flattens a sheet that was moved to f32 points: what the two calls have to do with each other, and the conditions on the old one. Definitions only.
use Rattle.std.specs.Prelude.{ℕ, zero, suc, ◌+◌, ◌*◌, ◌/◌, ◌^◌, ◌<◌, ◌≤◌, ◌≡◌, true, false, List, [], ◌∷◌, ◌++◌, eqb, length, get_or, drop, take}
use Rattle.scene.specs.Tags.{bit, sums_before}
use Rattle.scene.specs.Fresh.{byte_of as byteIn, Fresh}
use Rattle.scene.specs.Reading.{point_count, transform_of, flags_of, width_of}
use Rattle.flatten.specs.Tag.{is_stroke}
use Rattle.watertight.specs.Fill.{Call, tags, head_of, type_of}
use Rattle.sheets.specs.Moving.{is_old, new_tag, x_word, y_word, moved, to_f32}

-- ---- one call

-- its words of tags, and the byte of tag i
abbrev pub words_of : Call → List ℕ
words_of c = drop c.layout.tag_base c.scene

abbrev pub byte_of : Call → ℕ → ℕ
byte_of c i = byteIn (words_of c) i

-- the prefixes are what a scan of the scene's tags left in some lent words
abbrev pub Scanned : Call → Type 0
Scanned c = Fresh c.scene c.layout.tag_base c.prefixes

-- of which there were enough for every tag of the call
pub record Roomy (c : Call) : Type 0 where
  pub fresh : Scanned c
  pub room : c.layout.n_wg * 64 ≤ length fresh.lent / 4

-- the data words that all tags of the call count, by the scan's own sums
unfoldable pub counted : Call → ℕ
counted c = (sums_before (words_of c) (c.layout.n_wg * 64)).pathseg_offset

-- a tag of the call that draws
pub record Segment (c : Call) (i : ℕ) : Type 0 where
  pub in_call : i < tags c
  pub drawing : eqb (type_of c i) 0 ≡ false

-- ... with a stroke
pub record Stroked (c : Call) (i : ℕ) : Type 0 where
  pub segment : Segment c i
  pub stroke : is_stroke (head_of c i) ≡ true

-- ---- document 02's conditions on the old call

-- at most 2^28 tags
abbrev pub Few : Call → Type 0
Few c = tags c ≤ 2 ^ 28

-- no point word is read beyond those that the tags count
abbrev pub ReadsCounted : Call → Type 0
ReadsCounted c = (i : ℕ) → Segment c i → (head_of c i).tag.monoid.pathseg_offset + point_count (type_of c i) ≤ counted c

-- each stroked segment without an end bit is directly followed by a segment among the call's tags
abbrev pub Followed : Call → Type 0
Followed c = (i : ℕ) → Stroked c i → eqb (bit (head_of c i).tag.tag_byte 0x04) 1 ≡ false → Segment c (suc i)

-- ---- the two calls

-- every tag that gets a turn is moved: none that counts was of f32 points before, the word of each is there, and its byte is the moved one
pub record TagsMoved (old new : Call) : Type 0 where
  pub old_kind : (i : ℕ) → i < tags old → is_old (byte_of old i) ≡ true
  pub there : new.layout.tag_base + new.layout.n_wg * 64 ≤ length new.scene
  pub byte : (i : ℕ) → i < tags old → byte_of new i ≡ new_tag (byte_of old i)

-- each counted point word is moved to two
pub record PointsMoved (old new : Call) : Type 0 where
  pub there : new.layout.data_base + 2 * counted old ≤ length new.scene
  pub x : (w : ℕ) → w < counted old → get_or new.scene (new.layout.data_base + 2 * w) 0 ≡ x_word (get_or old.scene (old.layout.data_base + w) 0)
  pub y : (w : ℕ) → w < counted old → get_or new.scene (new.layout.data_base + 2 * w + 1) 0 ≡ y_word (get_or old.scene (old.layout.data_base + w) 0)

-- the style words that the old call reads: the flags for each tag, the width for each stroked segment
pub record SameStyles (old new : Call) : Type 0 where
  pub flags : (i : ℕ) → i < tags old
      → flags_of new.scene new.layout.style_base (head_of old i).tag.monoid.style_ix ≡ flags_of old.scene old.layout.style_base (head_of old i).tag.monoid.style_ix
  pub width : (i : ℕ) → Stroked old i
      → width_of new.scene new.layout.style_base (head_of old i).tag.monoid.style_ix ≡ width_of old.scene old.layout.style_base (head_of old i).tag.monoid.style_ix

-- the transform words that it reads, for each segment
abbrev pub SameTransforms : Call → Call → Type 0
SameTransforms old new = (i : ℕ) → Segment old i
    → transform_of new.scene new.layout.transform_base (head_of old i).tag.monoid.trans_ix ≡ transform_of old.scene old.layout.transform_base (head_of old i).tag.monoid.trans_ix

-- the same workgroups, boxes and lent lines
pub record SameLent (old new : Call) : Type 0 where
  pub workgroups : new.layout.n_wg ≡ old.layout.n_wg
  pub boxes : new.boxes ≡ old.boxes
  pub lines : new.lines ≡ old.lines

pub record Moves (old new : Call) : Type 0 where
  pub lent : SameLent old new
  pub tags : TagsMoved old new
  pub points : PointsMoved old new
  pub styles : SameStyles old new
  pub transforms : SameTransforms old new

-- ---- a whole sheet, as `to_f32` moves it

-- the bytes of the first n tags
unfoldable pub bytes_to : Call → ℕ → List ℕ
bytes_to c zero = []
bytes_to c (suc n) = bytes_to c n ++ byte_of c n ∷ []

-- the old call's sheet, all tags that get a turn and the words from the data base on, is moved to these tags and points, and the new call's scene has them at its bases
pub record SheetMoved (old new : Call) : Type 0 where
  pub tag_room : ℕ
  pub point_room : ℕ
  pub new_tags : List ℕ
  pub new_points_lem : List ℕ
  pub is_moved : to_f32 (bytes_to old (tags old)) (drop old.layout.data_base old.scene) tag_room point_room ≡ moved new_tags new_points_lem
  pub tags_there : new.layout.tag_base + new.layout.n_wg * 64 ≤ length new.scene
  pub tags_are : bytes_to new (tags old) ≡ new_tags
  pub points_there : new.layout.data_base + length new_points_lem ≤ length new.scene
  pub points_are : take (length new_points_lem) (drop new.layout.data_base new.scene) ≡ new_points_lem
