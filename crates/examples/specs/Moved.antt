-- The corner of width 2, moved to f32 points at other bases, meets every condition of `moved_sheet_flattens`: so it flattens as before. Assumes nothing.
use Rattle.std.specs.Prelude.{ℕ, zero, suc, ◌+◌, ◌<◌, ◌≡◌, refl, Bool, true, false, ◌&&◌, ◌||◌, not, List, [], ◌∷◌, ◌++◌, leb, ltb, eqb, replicate, Ok, Err}
use Rattle.std.proofs.Common.{ap, ◌∙◌, arith, lit≤, leb-true, ltb-true, eqb-true}
use Rattle.std.proofs.Math.Decide.{ℕ_discrete}
use Rattle.std.specs.Float.Ieee.{of_bits, of_int, to_bits, round, neg, odd, units, size, span, climb}
use Rattle.std.proofs.lemmas.Bool.{not-true}
use Rattle.refusals.specs.Refusals.{Read}
use Rattle.scene.specs.Words.{word_at}
use Rattle.scene.specs.Tags.{bit, tag_sums, plus, byte_at, sums_below, word_sums, tag_data, prefix_at, with_prefix, tag_in, tag_of, sums_before, prefixes, filled, scan_of}
use Rattle.scene.specs.Fresh.{byte_of}
use Rattle.scene.specs.Reading.{i16_of, point_count, floats_at, transform_of, flags_of, width_of}
use Rattle.flatten.specs.Boxes.{fresh_box}
use Rattle.flatten.specs.Tag.{boxed, head_at}
use Rattle.watertight.specs.Fill.{Call, outcome, head_or, head_of, type_of, tags}
use Rattle.sheets.specs.Moving.{is_old, new_tag, total, new_points, lead, unless, to_f32}
use Rattle.same_lines.specs.Conditions.{bytes_to, Scanned, Roomy, counted, Segment, Few, ReadsCounted, Followed, SheetMoved, SameLent, SameStyles, SameTransforms}
use Rattle.same_lines.specs.Sheets.{moved_sheet_flattens}
use Rattle.examples.specs.Corner.{corner, two, corner_accepted}

abbrev old : Call
old = corner two

new_scene : List ℕ
new_scene =
    0x09094020 ∷ 0x0000100e ∷ replicate 62 0
    ++ 0xc0800000 ∷ 0x3f800000 ∷ 0xbf800000 ∷ 0x3f800000 ∷ 0xbf800000 ∷ 0x40800000 ∷ 0xc0800000 ∷ 0x3f800000 ∷ 0xc0400000 ∷ 0x3f800000
    ∷ 0x3f800000 ∷ 0 ∷ 0 ∷ 0x3f800000 ∷ 0 ∷ 0
    ∷ 0x80000000 ∷ two ∷ []

pub new : Call
new =
    record {
      layout = record { n_wg = 1; tag_base = 0; data_base = 0x40; transform_base = 0x4a; style_base = 0x50 };
      scene = new_scene;
      prefixes = (scan_of new_scene 0 (replicate 256 0)).words;
      boxes = fresh_box ∷ [];
      lines = replicate 48 0;
    }

-- ---- a test of every tag
all_below : ℕ → (ℕ → Bool) → Bool
all_below zero p = true
all_below (suc n) p = p n && all_below n p

and_says : (a b : Bool) → a && b ≡ true → (a ≡ true) × (b ≡ true)
and_says true b e = (refl, e)
and_says false b e = let z : ◌≡◌ {A = ℕ} 0 1 = cc in absurd (omega arith)

below_says : (n : ℕ) (p : ℕ → Bool) → all_below n p ≡ true → (i : ℕ) → i < n → p i ≡ true
unfolding all_below
below_says zero p e i h = absurd (omega arith)
below_says (suc n) p e i h =
    let k = and_says (p n) (all_below n p) e in
    elim (ℕ_discrete i n) [ yes d ↦ ap p d ∙ k.0 | no ne ↦ below_says n p k.1 i (omega (arith, ne)) ]

or_says : (a b : Bool) → a || b ≡ true → a ≡ false → b ≡ true
or_says true b e f = let z : ◌≡◌ {A = ℕ} 0 1 = cc in absurd (omega arith)
or_says false b e f = e

same_word : Read ℕ → Read ℕ → Bool
same_word (Ok a) (Ok b) = eqb a b
same_word (Ok a) (Err w) = false
same_word (Err v) r = false

same_word_lem : (v w : Read ℕ) → same_word v w ≡ true → v ≡ w
unfolding same_word
same_word_lem (Ok a) (Ok b) e = ap Ok (eqb-true _ _ e)
same_word_lem (Ok a) (Err w) e = let z : ◌≡◌ {A = ℕ} 0 1 = cc in absurd (omega arith)
same_word_lem (Err v) w e = let z : ◌≡◌ {A = ℕ} 0 1 = cc in absurd (omega arith)

-- ---- what the conditions ask of tag i: nothing where it has no segment
abbrev offset_of : ℕ → ℕ
offset_of i = (head_of old i).tag.monoid.pathseg_offset

abbrev style_of : ℕ → ℕ
style_of i = (head_of old i).tag.monoid.style_ix

abbrev reads_test : ℕ → Bool
reads_test i = eqb (type_of old i) 0 || leb (offset_of i + point_count (type_of old i)) (counted old)

abbrev followed_test : ℕ → Bool
followed_test i = eqb (type_of old i) 0 || (eqb (bit (head_of old i).tag.tag_byte 0x04) 1 || (ltb (suc i) 256 && not (eqb (type_of old (suc i)) 0)))

abbrev flags_test : ℕ → Bool
flags_test i = same_word (flags_of new.scene new.layout.style_base (style_of i)) (flags_of old.scene old.layout.style_base (style_of i))

abbrev width_test : ℕ → Bool
width_test i = eqb (type_of old i) 0 || same_word (width_of new.scene new.layout.style_base (style_of i)) (width_of old.scene old.layout.style_base (style_of i))

abbrev transform_test : ℕ → Bool
transform_test i = eqb (type_of old i) 0 || eqb (head_of old i).tag.monoid.trans_ix 0

record Computed : Type 0 where
  reads : all_below 256 reads_test ≡ true
  followed : all_below 256 followed_test ≡ true
  flags : all_below 256 flags_test ≡ true
  width : all_below 256 width_test ≡ true
  transform : all_below 256 transform_test ≡ true

computed : Computed
unfolding same_word all_below corner new new_scene counted head_of head_or head_at boxed tag_of tag_in with_prefix tag_data prefix_at sums_below plus tag_sums byte_at word_at flags_of width_of scan_of filled prefixes sums_before word_sums point_count
computed = record { reads = refl; followed = refl; flags = refl; width = refl; transform = refl }

tag_test : (p : ℕ → Bool) → all_below 256 p ≡ true → (i : ℕ) → i < tags old → p i ≡ true
unfolding corner
tag_test p e i h = below_says 256 p e i h

-- ---- the old call
its_scan : Scanned old
unfolding corner scan_of filled prefixes sums_before word_sums sums_below plus tag_sums byte_at
its_scan = record { lent = replicate 8 0; scanned = refl }

its_few : Few old
unfolding corner
its_few = lit≤ tt

its_reads : ReadsCounted old
its_reads i s = leb-true _ _ (or_says _ _ (tag_test reads_test computed.reads i s.in_call) s.drawing)

its_following : (i : ℕ) → ltb (suc i) 256 && not (eqb (type_of old (suc i)) 0) ≡ true → Segment old (suc i)
unfolding corner
its_following i e =
    let k = and_says (ltb (suc i) 256) (not (eqb (type_of old (suc i)) 0)) e in
    record { in_call = ltb-true (suc i) 256 k.0; drawing = not-true _ k.1 }

its_followed : Followed old
its_followed i s end =
    its_following i (or_says _ _ (or_says _ _ (tag_test followed_test computed.followed i s.segment.in_call) s.segment.drawing) end)

-- ---- the new call
new_scan : Roomy new
unfolding new
new_scan = record { fresh = record { lent = replicate 256 0; scanned = refl }; room = lit≤ tt }

its_move : SheetMoved old new
unfolding corner new new_scene bytes_to byte_of byte_at to_f32 unless lead is_old new_tag total new_points i16_of of_int neg round units odd to_bits size span climb
its_move =
    record {
      tag_room = 256;
      point_room = 10;
      new_tags = bytes_to new 256;
      new_points_lem = 0xc0800000 ∷ 0x3f800000 ∷ 0xbf800000 ∷ 0x3f800000 ∷ 0xbf800000 ∷ 0x40800000 ∷ 0xc0800000 ∷ 0x3f800000 ∷ 0xc0400000 ∷ 0x3f800000 ∷ [];
      is_moved = refl;
      tags_there = lit≤ tt;
      tags_are = refl;
      points_there = lit≤ tt;
      points_are = refl;
    }

its_styles : SameStyles old new
its_styles =
    record {
      flags = λ i h. same_word_lem _ _ (tag_test flags_test computed.flags i h);
      width = λ i s. same_word_lem _ _ (or_says _ _ (tag_test width_test computed.width i s.segment.in_call) s.segment.drawing);
    }

its_transforms : SameTransforms old new
unfolding corner new new_scene transform_of floats_at of_bits
its_transforms i s =
    let e : (head_of old i).tag.monoid.trans_ix ≡ 0 = eqb-true _ _ (or_says _ _ (tag_test transform_test computed.transform i s.in_call) s.drawing) in
    rw e

its_lent : SameLent old new
unfolding corner new
its_lent = record { workgroups = refl; boxes = refl; lines = refl }

-- the moved corner flattens as the old one, to eight lines
pub same_corner : outcome new ≡ outcome old
same_corner = moved_sheet_flattens old new corner_accepted its_scan new_scan its_few its_reads its_followed its_move its_lent its_styles its_transforms
