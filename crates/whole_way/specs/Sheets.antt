-- The sheet that the whole way writes, as a call reads it: what commands wrote stands in it, under one fill style and one transform. Assumes nothing.
use Rattle.std.specs.Prelude.{ℕ, zero, suc, ◌+◌, ◌-◌, ◌*◌, ◌/◌, ◌%◌, ◌^◌, ◌<◌, ◌≤◌, ◌≡◌, true, false, eqb, drop, Ok, is_ok}
use Rattle.std.proofs.Math.Path.{refl, ap}
use Rattle.std.proofs.Common.{sym, ◌∙◌, drop-drop}
use mathlib.Core.List.{List, ◌++◌, append_assoc}
use native.Mathlib.Omega.{arith}
use Rattle.std.proofs.Math.ListN.{length, get_or, take, length-append, get_or-append}
use Rattle.std.proofs.Math.Seq.{take_at, drop_at}
use borrow.Author.Tests.{lt-ltb, le-leb}
use Rattle.scene.specs.Tags.{bit, byte_at}
use Rattle.scene.specs.Words.{word_at}
use Rattle.scene.specs.Reading.{transform_of, flags_of}
use Rattle.scene.specs.Fresh.{byte_of}
use Rattle.cut.specs.Sheet.{tag_bytes, tag_word, packed, groups, tag_words, fill_style, layout_by, sheet_of, size_of}
use Rattle.cut.specs.SheetLaws.{drawn_byte, path_byte, no_byte, length_packed, word_of_tags, word_of_tail, zeros_behind, length_sheet}
use Rattle.profile.specs.Rules.{six_at, straight}
use Rattle.watertight.specs.Fill.{Call, tags}
use Rattle.outlines.specs.Placing as placing
use Rattle.outlines.specs.Placing.{FreshCall, data_at, Lent, transform_at, style_at, FillAt}
use Rattle.outlines.specs.Sheet.{Begins, sheet_begins}
use Rattle.whole_way.specs.Calls.{scene_of, sheet_call}

-- ---- four bytes to a word

unpacked : (f : ℕ → ℕ) → ((j : ℕ) → f j < 256) → (j : ℕ) → j < 4 → byte_at (f 0 + f 1 * 0x100 + f 2 * 0x10000 + f 3 * 0x1000000) j ≡ f j
unfolding byte_at
unpacked f h zero l = omega (arith, h 0, h 1, h 2, h 3)
unpacked f h (suc zero) l = omega (arith, h 0, h 1, h 2, h 3)
unpacked f h (suc (suc zero)) l = omega (arith, h 0, h 1, h 2, h 3)
unpacked f h (suc (suc (suc zero))) l = omega (arith, h 0, h 1, h 2, h 3)
unpacked f h (suc (suc (suc (suc j)))) l = absurd (omega arith)

-- ---- the sheet

-- what is asked of one: six words of a transform, fewer than 2^31 words in all, and tags that are bytes
pub record Sound (drawn points six scene prefixes lines : List ℕ) : Type 0 where
  pub six_long : length six ≡ 6
  pub few : size_of (length drawn) (length points) < 2 ^ 31
  pub small : (i : ℕ) → get_or (tag_bytes drawn) i 0 < 256

module _ {drawn points six scene prefixes lines : List ℕ} (s : Sound drawn points six scene prefixes lines) where
  abbrev c : Call
  c = sheet_call drawn points six scene prefixes lines

  abbrev W : ℕ
  W = tag_words (length drawn)

  abbrev rest : List ℕ
  rest = drop (size_of (length drawn) (length points)) scene

  sheet_word : (k : ℕ) → k < size_of (length drawn) (length points) → get_or (scene_of drawn points six scene) k 0 ≡ get_or (sheet_of drawn points six) k 0
  unfolding scene_of
  sheet_word k l = get_or-append (sheet_of drawn points six) rest 0 k (omega (arith, l, length_sheet drawn points six s.six_long))

  -- tag i of the call
  pub tag_byte_lem : (i : ℕ) → i < W * 4 → byte_of (placing.tag_words c) i ≡ get_or (tag_bytes drawn) i 0
  unfolding sheet_call layout_by byte_of tag_word size_of
  tag_byte_lem i l =
      let k : i / 4 < W = omega arith in
      let word = sheet_word (i / 4) (omega arith) ∙ word_of_tags drawn points six (i / 4) k in
      let back : i / 4 * 4 + i % 4 ≡ i = omega arith in
      ap (λ (w : ℕ). byte_at w (i % 4)) word
      ∙ unpacked (λ j. get_or (tag_bytes drawn) (i / 4 * 4 + j) 0) (λ j. s.small (i / 4 * 4 + j)) (i % 4) (omega arith)
      ∙ ap (λ (n : ℕ). get_or (tag_bytes drawn) n 0) back

  -- the tags of all workgroups have words, and the three more than those drawn are among them
  pub all_tags_lem : tags c ≡ W * 4
  unfolding sheet_call layout_by tag_words groups
  all_tags_lem = omega arith

  pub enough : length drawn + 3 ≤ W * 4
  unfolding tag_words groups
  enough = omega arith

  pub transform_tag : byte_of (placing.tag_words c) 0 ≡ 0x20
  unfolding tag_bytes
  transform_tag = tag_byte_lem 0 (omega (arith, enough))

  pub style_tag : byte_of (placing.tag_words c) 1 ≡ 0x40
  unfolding tag_bytes
  style_tag = tag_byte_lem 1 (omega (arith, enough))

  pub drawn_tag : (j : ℕ) → j < length drawn → byte_of (placing.tag_words c) (2 + j) ≡ get_or drawn j 0
  drawn_tag j l = tag_byte_lem (2 + j) (omega (arith, enough)) ∙ drawn_byte drawn (2 + j) j (omega arith) l

  pub path_tag : byte_of (placing.tag_words c) (2 + length drawn) ≡ 0x10
  path_tag = tag_byte_lem (2 + length drawn) (omega (arith, enough)) ∙ path_byte drawn (2 + length drawn) (omega arith)

  pub nothing_more : (i : ℕ) → 2 + length drawn < i → i < tags c → byte_of (placing.tag_words c) i ≡ 0
  nothing_more i a l = tag_byte_lem i (omega (arith, l, all_tags_lem)) ∙ no_byte drawn i (omega arith)

  pub begins : Begins c
  begins = sheet_begins c transform_tag style_tag

  -- ---- the data

  -- behind the tags stand the points, the transform and the style
  behind_tags : drop W c.scene ≡ points ++ ((six ++ fill_style) ++ rest)
  unfolding sheet_call scene_of sheet_of
  behind_tags =
      let tail = points ++ (six ++ fill_style) in
      ap (drop W) (append_assoc (packed drawn W) tail rest) ∙ drop_at (packed drawn W) (tail ++ rest) W (length_packed drawn W) ∙ append_assoc points (six ++ fill_style) rest

  pub its_points : take (length points) (drop (data_at c 2) c.scene) ≡ points
  its_points =
      let at : data_at c 2 ≡ W = begins.data_base ∙ (unfold sheet_call in unfold layout_by in refl) in
      ap (λ (n : ℕ). take (length points) (drop n c.scene)) at ∙ ap (take (length points)) behind_tags ∙ take_at points ((six ++ fill_style) ++ rest) (length points) refl

  behind_points : drop (W + length points) c.scene ≡ six ++ (fill_style ++ rest)
  behind_points =
      sym (drop-drop (length points) W c.scene) ∙ ap (drop (length points)) behind_tags ∙ drop_at points ((six ++ fill_style) ++ rest) (length points) refl ∙ append_assoc six fill_style rest

  pub its_transform : take 6 (drop (c.layout.transform_base + transform_at c 2 * 6) c.scene) ≡ six
  its_transform =
      let at : c.layout.transform_base + transform_at c 2 * 6 ≡ W + length points = unfold sheet_call in unfold layout_by in omega (arith, begins.first_transform) in
      ap (λ (n : ℕ). take 6 (drop n c.scene)) at ∙ ap (take 6) behind_points ∙ take_at six (fill_style ++ rest) 6 s.six_long

  -- ---- the scan and the style

  pub fresh : FreshCall c
  unfolding sheet_call layout_by
  fresh = record { lent = prefixes; scanned = refl }

  pub long : size_of (length drawn) (length points) ≤ length c.scene
  unfolding sheet_call scene_of
  long = omega (arith, length-append (sheet_of drawn points six) rest, length_sheet drawn points six s.six_long)

  -- a word of the transform or the style
  tail_word : (i : ℕ) → i < 8 → get_or c.scene (W + length points + i) 0 ≡ get_or (six ++ fill_style) i 0
  unfolding sheet_call
  tail_word i l =
      let at : W + length points + i ≡ W + (length points + i) = omega arith in
      sheet_word (W + length points + i) (unfold size_of in omega arith) ∙ word_of_tail drawn points six (W + length points + i) i at

  tail_read : (i : ℕ) → i < 8 → word_at c.scene (W + length points + i) ≡ Ok (get_or (six ++ fill_style) i 0)
  unfolding word_at
  tail_read i l = rw (lt-ltb (W + length points + i) (length c.scene) (unfold size_of in omega (arith, long))) (ap Ok (tail_word i l))

  pub fill : FillAt c 2
  unfolding flags_of sheet_call layout_by size_of
  fill =
      let at : (c.layout.style_base + style_at c 2) % 2 ^ 32 ≡ W + length points + 6 = omega (arith, s.few, begins.first_style) in
      record { flags = 0; read = ap (word_at c.scene) at ∙ tail_read 6 (omega arith) ∙ ap Ok (zeros_behind six 6 (omega (arith, s.six_long))); no_stroke = refl }

  -- by the nonzero rule
  pub nonzero : eqb (bit fill.flags 0x40000000) 1 ≡ false
  unfolding fill
  nonzero = refl

  -- ---- what the profile asks besides

  -- a word stands where flags are read before the first style
  pub before_styles : flags_of c.scene c.layout.style_base (2 ^ 32 - 2) ≡ Ok (get_or (six ++ fill_style) 4 0)
  unfolding flags_of sheet_call layout_by size_of
  before_styles =
      let at : (c.layout.style_base + (2 ^ 32 - 2)) % 2 ^ 32 ≡ W + length points + 4 = omega (arith, s.few) in
      ap (word_at c.scene) at ∙ tail_read 4 (omega arith)

  pub transform_there : is_ok (transform_of c.scene c.layout.transform_base 0) ≡ true
  unfolding transform_of sheet_call layout_by size_of
  transform_there =
      let at : W + length points + 0 * 6 ≡ W + length points = omega arith in
      rw (at, lt-ltb (W + length points) (2 ^ 32) (omega (arith, s.few)), le-leb (W + length points + 6) (length c.scene) (omega (arith, long)))

  -- the shear of the sheet is that of the six words
  pub same_shear : straight (six_at c.scene c.layout.transform_base) ≡ straight six
  unfolding straight six_at sheet_call layout_by
  same_shear = rw (word 1 (omega arith), word 2 (omega arith))
    where
      word : (i : ℕ) → i < 6 → get_or c.scene (W + length points + i) 0 ≡ get_or six i 0
      word i l = tail_word i (omega arith) ∙ get_or-append six fill_style 0 i (omega (arith, s.six_long, l))

  pub bases : (c.layout.tag_base ≤ length c.scene) × (c.layout.data_base ≤ length c.scene)
  unfolding sheet_call layout_by size_of
  bases = (omega arith, omega (arith, long))

  -- a prefix is lent for each word of tags
  pub lent : W * 4 ≤ length prefixes → Lent c fresh (tags c)
  unfolding fresh
  lent h = record { words = unfold sheet_call in unfold layout_by in unfold size_of in omega (arith, all_tags_lem, long); prefixes = omega (arith, all_tags_lem, h) }
