-- The segments of the sheet that the whole way writes are exactly the tags that the commands wrote, in order, each subpath a closed run. Assumes nothing.
use Prim.Native.Nat.{ℕ, zero, suc, ◌+◌, ◌-◌, ◌%◌, ◌^◌, ◌<◌, ◌≤◌}
use Rattle.std.specs.Prelude.{◌≡◌, true, false, not, ◌&&◌, eqb, length, get_or, take, drop}
use Rattle.std.proofs.Math.Path.{refl, sym, ap, subst}
use Rattle.std.proofs.Common.{◌∙◌, take_at, eq-eqb, ne_eqb}
use mathlib.Core.List.{List, [], ◌∷◌, ◌++◌, append-nil}
use native.Mathlib.Omega.{arith}
use Rattle.std.proofs.Math.Decide.{ℕ_discrete, dec_lt}
use Rattle.scene.specs.Tags.{bit, tag_sums, plus, tag_data}
use Rattle.scene.specs.Fresh.{byte_of, sums_to}
use Rattle.scene.specs.FreshLaws.{sums_at, sums_at_lem, fresh_tag}
use Rattle.scene.specs.declared.tags.PathTagData.{PathTagData}
use Rattle.flatten.specs.Found.{HeadParts, head_parts}
use Rattle.pattern.specs.Commands.{Segment, line, quad, cubic, spots, tag_of, Command}
use Rattle.pattern.specs.Meaning.{Subpath, segment_tags, tags_of}
use Rattle.pattern.specs.Encoded.{Holds, encoded}
use Rattle.pattern.specs.Every.{Every, none, more}
use Rattle.watertight.specs.Fill.{Call, Accepted, head_of, type_of, path_at, Each}
use Rattle.watertight.specs.Fill as fills
use Rattle.watertight.specs.Accepted.{done}
use Rattle.outlines.specs.Placing.{left, subpaths, Finished, drawn_tags, drawn_points, tag_words, Placed, tags_from, outlines, ClosedRun}
use Rattle.outlines.specs.Decode.{size_of_lem}
use Rattle.outlines.specs.Lines.{closed_runs}
use Rattle.own_lists.specs.Fills.{Outline, ClosedFill, EachOutline}
use Rattle.own_lists.specs.Fills as fill
use Rattle.closed_cuts.specs.Closed.{own_segment, segments_from, ClosedInOrder}
use Rattle.cut.specs.Sheet.{tag_bytes, size_of}
use Rattle.whole_way.specs.Calls.{sheet_call}
use Rattle.whole_way.specs.Sheets as sheets

-- ---- the bytes of segments

-- a byte that begins no transform, style or path and has a segment
pub record IsSegment (b : ℕ) : Type 0 where
  pub kind : eqb (b % 4) 0 ≡ false
  pub low : b < 16

abbrev AllSegments : List ℕ → Type 0
AllSegments bs = (j : ℕ) → j < length bs → IsSegment (get_or bs j 0)

none_yet : AllSegments []
none_yet j l = absurd (omega arith)

one_more_lem : (b : ℕ) (bs : List ℕ) → IsSegment b → AllSegments bs → AllSegments (b ∷ bs)
one_more_lem b bs h k zero l = h
one_more_lem b bs h k (suc j) l = k j (omega arith)

both : (bs ds : List ℕ) → AllSegments bs → AllSegments ds → AllSegments (bs ++ ds)
both [] ds h k = k
both (b ∷ bs) ds h k = one_more_lem b (bs ++ ds) (h 0 (omega arith)) (both bs ds (λ j l. h (suc j) (omega arith)) k)

segment_byte : (g : Segment) → IsSegment (tag_of g) × IsSegment (tag_of g + 0x04)
unfolding tag_of spots
segment_byte (line p) = (record { kind = refl; low = omega arith }, record { kind = refl; low = omega arith })
segment_byte (quad p q) = (record { kind = refl; low = omega arith }, record { kind = refl; low = omega arith })
segment_byte (cubic p q r) = (record { kind = refl; low = omega arith }, record { kind = refl; low = omega arith })

segment_bytes : (gs : List Segment) → AllSegments (segment_tags gs)
unfolding segment_tags
segment_bytes [] = none_yet
segment_bytes (g ∷ []) = one_more_lem (tag_of g + 0x04) [] (segment_byte g).1 none_yet
segment_bytes (g ∷ h ∷ gs) = one_more_lem (tag_of g) (segment_tags (h ∷ gs)) (segment_byte g).0 (segment_bytes (h ∷ gs))

all_bytes : (ss : List Subpath) → AllSegments (tags_of ss)
unfolding tags_of
all_bytes [] = none_yet
all_bytes (s ∷ ss) = both (segment_tags s.segments) (tags_of ss) (segment_bytes s.segments) (all_bytes ss)

-- ---- bytes are small

abbrev Small : List ℕ → Type 0
Small bs = (i : ℕ) → get_or bs i 0 < 256

small_more : (b : ℕ) (bs : List ℕ) → b < 256 → Small bs → Small (b ∷ bs)
small_more b bs h k zero = h
small_more b bs h k (suc i) = k i

small_behind : (bs : List ℕ) → AllSegments bs → Small (bs ++ (0x10 ∷ []))
small_behind [] h = small_more 0x10 [] (omega arith) (λ i. omega arith)
small_behind (b ∷ bs) h = small_more b (bs ++ (0x10 ∷ [])) (omega (arith, (h 0 (omega arith)).low)) (small_behind bs (λ j l. h (suc j) (omega arith)))

small_tags : (drawn : List ℕ) → AllSegments drawn → Small (tag_bytes drawn)
unfolding tag_bytes
small_tags drawn h = small_more 0x20 (0x40 ∷ (drawn ++ (0x10 ∷ []))) (omega arith) (small_more 0x40 (drawn ++ (0x10 ∷ [])) (omega arith) (small_behind drawn h))

-- ---- outlines one behind the other

unfoldable all_of : List (List ℕ) → List ℕ
all_of [] = []
all_of (is ∷ iss) = is ++ all_of iss

tags_parts : (i m n : ℕ) → tags_from i (m + n) ≡ tags_from i m ++ tags_from (i + m) n
unfolding tags_from
tags_parts i zero n = let e : 0 + n ≡ n = omega arith in let f : i + 0 ≡ i = omega arith in rw (e, f)
tags_parts i (suc m) n = let e : suc m + n ≡ suc (m + n) = omega arith in let f : i + suc m ≡ suc i + m = omega arith in rw (e, f) (ap (λ (is : List ℕ). i ∷ is) (tags_parts (suc i) m n))

in_a_row : (i : ℕ) (ss : List Subpath) → tags_from i (length (tags_of ss)) ≡ all_of (outlines i ss)
unfolding tags_of outlines all_of tags_from
in_a_row i [] = refl
in_a_row i (s ∷ ss) =
    ap (tags_from i) (size_of_lem s ss) ∙ tags_parts i (length s.segments) (length (tags_of ss)) ∙ ap (λ (is : List ℕ). tags_from i (length s.segments) ++ is) (in_a_row (i + length s.segments) ss)

each_front : (P : ℕ → Type 0) (is js : List ℕ) → Each P (is ++ js) → Each P is × Each P js
unfolding Each
each_front P [] js h = (tt, h)
each_front P (i ∷ is) js h = let k = each_front P is js h.1 in ((h.0, k.0), k.1)

-- ---- closed runs of path 0 as outlines

module _ (c : Call) where
  abbrev OfPath : ℕ → Type 0
  OfPath i = path_at c i ≡ 0

  each_same : (i : ℕ) (js : List ℕ) → OfPath i → Each OfPath js → Each (λ j. path_at c j ≡ path_at c i) js
  unfolding Each
  each_same i [] e h = tt
  each_same i (j ∷ js) e h = (h.0 ∙ sym e, each_same i js e h.1)

  as_outline : (is : List ℕ) → ClosedRun c is → Each OfPath is → (o : Outline) × ClosedFill c o × (is ≡ o.first ∷ o.behind)
  unfolding Each
  as_outline is r h =
      let k : Each OfPath (r.first ∷ r.others) = subst (Each OfPath) r.tags h in
      (record { first = r.first; behind = r.others }, record { run = r.run; closed = r.closed; one_path = each_same r.first r.others k.0 k.1 }, r.tags)

  as_outlines : (iss : List (List ℕ)) → Every (ClosedRun c) iss → Each OfPath (all_of iss) → (os : List Outline) × EachOutline (ClosedFill c) os × (all_of iss ≡ fill.tags_of os)
  unfolding all_of EachOutline fill.tags_of
  as_outlines [] none h = ([], tt, refl)
  as_outlines (is ∷ iss) (more r rs) h =
      let k = each_front OfPath is (all_of iss) h in
      let o = as_outline is r k.0 in
      let os = as_outlines iss rs k.1 in
      (o.0 ∷ os.0, (o.1, os.1), ap (λ (js : List ℕ). js ++ all_of iss) o.2 ∙ ap (λ (js : List ℕ). o.0.first ∷ (o.0.behind ++ js)) os.2)

-- ---- the segments of path 0 among the tags

module _ (c : Call) where
  none_own : (n i : ℕ) → ((j : ℕ) → i ≤ j → j < i + n → own_segment c 0 j ≡ false) → segments_from c 0 n i ≡ []
  unfolding segments_from
  none_own zero i h = refl
  none_own (suc n) i h = rw (h i (omega arith) (omega arith)) (none_own n (suc i) (λ j a l. h j (omega arith) (omega arith)))

  all_own : (m n i : ℕ) → ((j : ℕ) → i ≤ j → j < i + m → own_segment c 0 j ≡ true) → segments_from c 0 (m + n) i ≡ tags_from i m ++ segments_from c 0 n (i + m)
  unfolding segments_from tags_from
  all_own zero n i h = let e : 0 + n ≡ n = omega arith in let f : i + 0 ≡ i = omega arith in rw (e, f)
  all_own (suc m) n i h =
      let e : suc m + n ≡ suc (m + n) = omega arith in
      let f : i + suc m ≡ suc i + m = omega arith in
      rw (e, f, h i (omega arith) (omega arith)) (ap (λ (js : List ℕ). i ∷ js) (all_own m n (suc i) (λ j a l. h j (omega arith) (omega arith))))

  two_not_own : (n : ℕ) → own_segment c 0 0 ≡ false → own_segment c 0 1 ≡ false → segments_from c 0 (suc (suc n)) 0 ≡ segments_from c 0 n 2
  unfolding segments_from
  two_not_own n e f = rw (e, f)

-- ---- the tags of the sheet

module _ (tags points : List ℕ) (cs : List Command) (e : Finished (left tags points cs)) (six scene prefixes lines : List ℕ) (six_long : length six ≡ 6) where
  abbrev drawn : List ℕ
  drawn = drawn_tags (left tags points cs)

  abbrev words : List ℕ
  words = drawn_points (left tags points cs)

  abbrev ss : List Subpath
  ss = subpaths tags points cs

  held : (W lent now : List ℕ) (n : ℕ) → Holds W lent now n → take n now ≡ W
  held W lent now n h = ap (take n) h.words ∙ take_at W (drop (length W) lent) n (sym h.count)

  drawn_is : drawn ≡ tags_of ss
  drawn_is = held _ tags _ _ (encoded tags points cs e).its_tags

  pub count : length drawn ≡ (left tags points cs).pen.tags
  count = ap length drawn_is ∙ sym (encoded tags points cs e).its_tags.count

  segments_all : AllSegments drawn
  segments_all = subst AllSegments (sym drawn_is) (all_bytes ss)

  small : (i : ℕ) → get_or (tag_bytes drawn) i 0 < 256
  small = small_tags drawn segments_all

  module _ (few : size_of (length drawn) (length words) < 2 ^ 31) where
    abbrev c : Call
    c = sheet_call drawn words six scene prefixes lines

    abbrev N : ℕ
    N = length drawn

    pub sheet : sheets.Sound drawn words six scene prefixes lines
    sheet = record { six_long = six_long; few = few; small = small }

    pub placed : Placed c 2 (left tags points cs)
    placed =
        record {
          here = record { byte = sheets.drawn_tag sheet; its_data = sheets.its_points sheet };
          few = unfold size_of in omega (arith, few, offset);
        }
      where
        offset : (sums_to (tag_words c) 2).pathseg_offset ≡ 0
        offset = let b = (sheets.begins sheet).data_base in omega (arith, b)

    pub in_call : 2 + (left tags points cs).pen.tags ≤ fills.tags c
    in_call = omega (arith, sheets.all_tags_lem sheet, sheets.enough sheet, count)

    -- no path tag stands before the tag behind what was drawn
    path_bit : (i : ℕ) → i < 2 + N → bit (byte_of (tag_words c) i) 0x10 ≡ 0
    path_bit i l =
        elim (dec_lt i 2) [
          | yes a ↦ elim (ℕ_discrete i 0) [
            | yes z ↦ rw (z, sheets.transform_tag sheet)
            | no nz ↦ let o : i ≡ 1 = omega (arith, a, nz) in rw (o, sheets.style_tag sheet)
          ]
          | no g ↦
              let j : i ≡ 2 + (i - 2) = omega (arith, g) in
              let b = sheets.drawn_tag sheet (i - 2) (omega (arith, l, g)) in
              let s = (segments_all (i - 2) (omega (arith, l, g))).low in
              rw (j, b) (omega (arith, s))
        ]

    no_path : (i : ℕ) → i ≤ 2 + N → (sums_to (tag_words c) i).path_ix ≡ 0
    unfolding sums_to plus tag_sums
    no_path zero l = refl
    no_path (suc i) l = omega (arith, no_path i (omega arith), path_bit i (omega arith))

    -- ---- of an accepted call

    module _ (a : Accepted c) where
      its_tag_lem : (i : ℕ) → i < fills.tags c → (head_of c i).tag ≡ tag_data (byte_of (tag_words c) i) (sums_at (tag_words c) i)
      its_tag_lem i l =
          let p : HeadParts c.layout c.scene c.prefixes (length c.boxes) i (head_of c i) =
          head_parts c.layout c.scene c.prefixes (length c.boxes) i (head_of c i) ((done c a).sound i l).head in
          (fresh_tag c.scene c.layout.tag_base c.prefixes (sheets.fresh sheet) i (head_of c i).tag p.tag).1

      type_is : (i : ℕ) → i < fills.tags c → type_of c i ≡ byte_of (tag_words c) i % 4
      unfolding tag_data
      type_is i l = ap (λ (t : PathTagData). t.tag_byte % 4) (its_tag_lem i l)

      not_own : (i b : ℕ) → i < fills.tags c → byte_of (tag_words c) i ≡ b → b % 4 ≡ 0 → own_segment c 0 i ≡ false
      not_own i b l e z =
          let t : type_of c i ≡ 0 = type_is i l ∙ ap (λ (n : ℕ). n % 4) e ∙ z in
          ap (λ (n : ℕ). not (eqb n 0) && eqb (path_at c i) 0) t

      drawn_byte : (i : ℕ) → 2 ≤ i → i < 2 + N → IsSegment (byte_of (tag_words c) i)
      drawn_byte i g l =
          let j : 2 + (i - 2) ≡ i = omega arith in
          let b = sheets.drawn_tag sheet (i - 2) (omega arith) in
          subst (λ (k : ℕ). IsSegment (byte_of (tag_words c) k)) j (subst IsSegment (sym b) (segments_all (i - 2) (omega arith)))

      low_some : (b : ℕ) → IsSegment b → eqb b 0 ≡ false
      low_some b s = ne_eqb b 0 (λ z. false_is (sym (ap (λ (n : ℕ). eqb (n % 4) 0) z) ∙ s.kind))
        where
          false_is : true ≡ false → ⊥
          false_is h = let y : ◌≡◌ {A = ℕ} 0 1 = cc in omega arith

      path_is : (i : ℕ) → 2 ≤ i → i < 2 + N → path_at c i ≡ 0
      unfolding tag_data
      path_is i g l =
          ap (λ (t : PathTagData). t.monoid.path_ix) (its_tag_lem i (omega (arith, in_call, count)) ∙ ap (tag_data (byte_of (tag_words c) i)) (sums_at_lem (tag_words c) i (low_some _ (drawn_byte i g l))))
          ∙ no_path i (omega arith)

      own : (i : ℕ) → 2 ≤ i → i < 2 + N → own_segment c 0 i ≡ true
      own i g l =
          let t : eqb (type_of c i) 0 ≡ false = ap (λ (n : ℕ). eqb n 0) (type_is i (omega (arith, in_call, count))) ∙ (drawn_byte i g l).kind in
          rw (t, eq-eqb (path_at c i) 0 (path_is i g l))

      others : (j : ℕ) → 2 + N ≤ j → j < fills.tags c → own_segment c 0 j ≡ false
      others j g l =
          elim (ℕ_discrete j (2 + N)) [
            | yes z ↦ not_own j 0x10 l (ap (byte_of (tag_words c)) z ∙ sheets.path_tag sheet) refl
            | no ne ↦ not_own j 0 l (sheets.nothing_more sheet j (omega (arith, g, ne)) l) refl
          ]

      -- the segments of the path are the tags that the commands wrote, in order
      pub segments_are : segments_from c 0 (fills.tags c) 0 ≡ tags_from 2 N
      segments_are =
          let k = fills.tags c - 2 - N in
          let size : fills.tags c ≡ suc (suc (N + k)) = omega (arith, in_call, count) in
          let inside : 1 < fills.tags c = omega (arith, in_call) in
          ap (λ (n : ℕ). segments_from c 0 n 0) size
          ∙ two_not_own c (N + k) (not_own 0 0x20 (omega (arith, inside)) (sheets.transform_tag sheet) refl)
          (not_own 1 0x40 inside (sheets.style_tag sheet) refl)
          ∙ all_own c N k 2 own
          ∙ ap (λ (js : List ℕ). tags_from 2 N ++ js) (none_own c k (2 + N) (λ j g l. others j g (omega (arith, l, size))))
          ∙ append-nil (tags_from 2 N)

      each_from : (i n : ℕ) → 2 ≤ i → i + n ≤ 2 + N → Each (OfPath c) (tags_from i n)
      unfolding Each tags_from
      each_from i zero g l = tt
      each_from i (suc n) g l = (path_is i g (omega arith), each_from (suc i) n (omega arith) (omega arith))

      -- each subpath that the commands mean is a closed outline of path 0, one behind the other, and nothing else is
      pub closed_in_order : ClosedInOrder c 0
      closed_in_order =
          let row : tags_from 2 N ≡ all_of (outlines 2 ss) = ap (tags_from 2) (ap length drawn_is) ∙ in_a_row 2 ss in
          let runs = closed_runs tags points cs e c 2 placed a (sheets.fresh sheet) (sheets.fill sheet) in_call in
          let k = as_outlines c (outlines 2 ss) runs (subst (Each (OfPath c)) row (each_from 2 N (omega arith) (omega arith))) in
          record { outlines = k.0; closed_fills = k.1; in_order = segments_are ∙ row ∙ k.2 }
