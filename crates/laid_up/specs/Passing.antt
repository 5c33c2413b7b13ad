-- What drawing commands left passes the profile. Assumes nothing.
use Prim.Native.Nat.{ℕ, zero, suc, ◌+◌, ◌-◌, ◌*◌, ◌/◌, ◌%◌, ◌^◌, ◌<◌, ◌≤◌}
use Rattle.std.specs.Prelude.{◌≡◌, ◌⊎◌, Bool, ◌&&◌, cond, leb, get_or, Ok, None, is_ok}
use Rattle.std.proofs.Math.Path.{refl, ap, subst}
use Rattle.std.proofs.Common.{sym, ◌∙◌, lit<}
use Rattle.std.proofs.Math.Logic.{inl, inr}
use Rattle.std.proofs.Math.Bool.{true, false, not}
use mathlib.Core.List.{List, [], ◌∷◌}
use native.Mathlib.Omega.{arith}
use Rattle.std.proofs.Math.Decide.{ℕ_discrete, dec_lt}
use Rattle.std.proofs.Math.Dec.{eqb}
use Rattle.std.proofs.Math.ListN.{length}
use borrow.Author.Tests.{eq-eqb, ne_eqb, le-ltb, lt-leb}
use Rattle.records.specs.Record.{once}
use Rattle.refusals.specs.Refusals.{Read}
use Rattle.refusals.specs.Laws.{found_is}
use Rattle.scene.specs.Tags.{bit, tag_sums, plus, tag_data, byte_at, sums_below, sums_before}
use Rattle.scene.specs.Reading.{wide, point_at, f32_point, point_words, segment_of, transform_of, flags_of}
use Rattle.scene.specs.Fresh.{byte_of, sums_to}
use Rattle.scene.specs.FreshLaws.{placed, sums_at, sums_at_lem, roomy_tag}
use Rattle.scene.specs.declared.tags.PathMonoid.{PathMonoid}
use Rattle.scene.specs.declared.tags.PathTagData.{PathTagData}
use Rattle.pattern.specs.Commands.{same, words_of, Segment, line, quad, cubic, spots, target, Command}
use Rattle.pattern.specs.Commands as commands
use Rattle.pattern.specs.Meaning.{Subpath, end_of, tags_of}
use Rattle.pattern.specs.Encoded.{encoded}
use Rattle.pattern.specs.Every.{Every, none, more}
use Rattle.pattern.specs.Closed.{all_closed}
use Rattle.pattern.specs.Closed as closed
use Rattle.pattern.specs.declared.pen.Spot.{Spot}
use Rattle.spiral.specs.Util.{eq_of}
use Rattle.flatten.specs.Tag.{is_path, is_stroke, shape_at}
use Rattle.flatten.specs.Found.{head_whole}
use Rattle.flatten.specs.Call.{first_turn, start_of}
use Rattle.flatten.specs.declared.tag.Head.{Head}
use Rattle.profile.specs.Reads.{Given, read_head, no_segment, rest_by, read_at}
use Rattle.profile.specs.Verdict.{passed, profile_of}
use Rattle.profile.specs.Rules as rules
use Rattle.profile.specs.Rules.{head_or, head_of, has_segment, has_end, is_even_odd, six_at, six_words, same_words, straight, aligned_to, point_of, first_of, last_of, segments, open_at, beginning, leading, facts_at, rule_at, rule_of, broken70, broken71, broken72, broken73, broken74, broken75}
use Rattle.profile.specs.Passed.{passes, fine_is}
use Rattle.watertight.specs.Fill.{Call}
use Rattle.watertight.specs.Fill as fills
use Rattle.outlines.specs.Placing.{left, subpaths, Finished, tag_words, FreshCall, data_at, Lent, transform_at, style_at, FillAt}
use Rattle.outlines.specs.Walk.{tag_byte, Drawn, Walk, Walks}
use Rattle.outlines.specs.Decode.{byte_is_lem, inside, reach, size_of_lem, walked}
use Rattle.outlines.specs.Lines.{word_there}
use Rattle.outlines.specs.Sheet.{Begins, sheet_begins}
use Rattle.laid_up.specs.Sheet.{scene_of, head_at}
use Rattle.laid_up.specs.Patterns.{LayUp}
use Rattle.laid_up.specs.Subpaths.{Leads, leads, begins_here}

-- ---- a tag's head

-- every sum of paths is a u32
path_small : (b : Bool) (m s : PathMonoid) → s.path_ix < 2 ^ 32 → (placed b m s).path_ix < 2 ^ 32
unfolding placed plus
path_small true m s l = l
path_small false m s l = omega arith

below_small : (word p : ℕ) → (sums_below word p).path_ix < 2 ^ 32
unfolding sums_below plus
below_small word zero = omega arith
below_small word (suc p) = omega arith

sums_small : (ts : List ℕ) (i : ℕ) → (sums_at ts i).path_ix < 2 ^ 32
unfolding sums_at
sums_small ts i = path_small (eqb (byte_of ts i) 0) (sums_before ts (i / 4)) (sums_below (get_or ts (i / 4) 0) (i % 4)) (below_small (get_or ts (i / 4) 0) (i % 4))

no_box : (b : Bool) (n : ℕ) → n < 2 ^ 32 → b && leb (2 ^ 32) n ≡ false
no_box true n l = lt-leb (2 ^ 32) n l
no_box false n l = refl

module _ (c : Call) (f : FreshCall c) (lent : Lent c f (fills.tags c)) where
  abbrev g : Given
  g = scene_of c

  -- the tag as it is read with a fresh scan
  abbrev its_tag : ℕ → PathTagData
  its_tag i = tag_data (byte_of (tag_words c) i) (sums_at (tag_words c) i)

  abbrev flags_for : ℕ → Read ℕ
  flags_for ix = flags_of c.scene c.layout.style_base ix

  head_found : (i w : ℕ) → i < fills.tags c → flags_for (its_tag i).monoid.style_ix ≡ Ok w → read_head g i ≡ Ok (record { tag = its_tag i; flags = w })
  unfolding tag_data
  head_found i w l e =
      head_whole c.layout c.scene c.prefixes (2 ^ 32) i (record { tag = its_tag i; flags = w })
      (record {
        tag = roomy_tag c.scene c.layout.tag_base c.prefixes f i (omega (arith, lent.words)) (omega (arith, lent.prefixes));
        flags = e;
        box = no_box (eqb (bit (byte_of (tag_words c) i) 0x10) 1) (sums_at (tag_words c) i).path_ix (sums_small (tag_words c) i);
      })

  head_is : (i : ℕ) (h : Head) → read_head g i ≡ Ok h → head_at c i ≡ h
  unfolding head_of head_or
  head_is i h e = rw e

  -- ---- a tag with no segment

  module _ (i w : ℕ) (l : i < fills.tags c) (e : flags_for (its_tag i).monoid.style_ix ≡ Ok w) where
    its_head : head_at c i ≡ record { tag = its_tag i; flags = w }
    its_head = head_is i _ (head_found i w l e)

    its_byte : (head_at c i).tag.tag_byte ≡ byte_of (tag_words c) i
    unfolding tag_data
    its_byte = ap (λ (h : Head). h.tag.tag_byte) its_head

    module _ (k : byte_of (tag_words c) i % 4 ≡ 0) where
      plain_none : has_segment (head_at c i) ≡ false
      plain_none = rw (its_byte, k)

      plain_read : read_at g i ≡ Ok (head_at c i)
      unfolding read_at rest_by tag_data
      plain_read = rw (head_found i w l e, k) (ap Ok (sym its_head))

      plain_fine : is_path (head_at c i) && is_stroke (head_at c i) ≡ false → is_path (head_at c i) && is_even_odd (head_at c i) ≡ false → has_end (head_at c i) ≡ false → rule_at g i ≡ None
      unfolding facts_at broken70 broken71 broken72 broken73 broken74 broken75
      plain_fine a b n =
          fine_is (facts_at g i) (record { r70 = rw plain_none a; r71 = rw plain_none b; r72 = rw plain_none; r73 = rw plain_none; r74 = rw plain_none n; r75 = rw plain_none })

  -- ---- a segment that a command drew

  rest_found : (i : ℕ) (h : Head) → no_segment h ≡ false → is_stroke h ≡ false → is_ok (transform_of c.scene c.layout.transform_base h.tag.monoid.trans_ix) ≡ true
      → is_ok (segment_of h.tag.tag_byte false h.tag.monoid.pathseg_offset c.scene c.layout.data_base) ≡ true → rest_by (no_segment h) g i h ≡ Ok h
  unfolding rest_by shape_at
  rest_found i h a b d e = rw (a, b, (found_is _ d).1, (found_is _ e).1)

  module _ (fill : FillAt c 2) (there : is_ok (transform_of c.scene c.layout.transform_base (transform_at c 2)) ≡ true)
      (i : ℕ) (l : i < fills.tags c) (p : Spot) (sg : Segment) (last : Bool) (d : Drawn c 2 i p sg last) where
    abbrev drawn_head : Head
    drawn_head = record { tag = tag_data (tag_byte sg last) (sums_to (tag_words c) i); flags = fill.flags }

    seg_tag : its_tag i ≡ tag_data (tag_byte sg last) (sums_to (tag_words c) i)
    seg_tag =
        let some = subst (λ (b : ℕ). eqb b 0 ≡ false) (sym d.byte) (byte_is_lem sg last).some in
        ap (tag_data (byte_of (tag_words c) i)) (sums_at_lem (tag_words c) i some) ∙ ap (λ (b : ℕ). tag_data b (sums_to (tag_words c) i)) d.byte

    seg_head : read_head g i ≡ Ok drawn_head
    unfolding tag_data
    seg_head =
        let style : (its_tag i).monoid.style_ix ≡ style_at c 2 = ap (λ (t : PathTagData). t.monoid.style_ix) seg_tag ∙ ap (λ (n : ℕ). (n + (2 ^ 32 - 2)) % 2 ^ 32) d.under.style in
        head_found i fill.flags l (ap flags_for style ∙ fill.read) ∙ ap (λ (t : PathTagData). Ok (record { tag = t; flags = fill.flags })) seg_tag

    seg_is : head_at c i ≡ drawn_head
    seg_is = head_is i drawn_head seg_head

    some_points : (sg : Segment) → eqb (length (spots sg)) 0 ≡ false
    unfolding spots
    some_points (line a) = refl
    some_points (quad a b) = refl
    some_points (cubic a b q) = refl

    kind_is : tag_byte sg last % 4 ≡ length (spots sg)
    kind_is = (byte_is_lem sg last).type

    seg_some : has_segment (head_at c i) ≡ true
    unfolding tag_data
    seg_some = rw (seg_is, kind_is, some_points sg)

    seg_end : has_end (head_at c i) ≡ last
    unfolding tag_data
    seg_end = rw seg_is (byte_is_lem sg last).end

    seg_read : read_at g i ≡ Ok (head_at c i)
    unfolding read_at tag_data segment_of words_of
    seg_read =
        let none : no_segment drawn_head ≡ false = ap (λ (n : ℕ). eqb n 0) kind_is ∙ some_points sg in
        let trans : ((sums_to (tag_words c) i).trans_ix + (2 ^ 32 - 1)) % 2 ^ 32 ≡ transform_at c 2 = ap (λ (n : ℕ). (n + (2 ^ 32 - 1)) % 2 ^ 32) d.under.transform in
        let found-there = ap (λ (n : ℕ). is_ok (transform_of c.scene c.layout.transform_base n)) trans ∙ there in
        let room = inside _ (data_at c i) c.scene (words_of (p ∷ spots sg)) d.words refl (omega arith) in
        let points : is_ok (segment_of (tag_byte sg last) false (sums_to (tag_words c) i).pathseg_offset c.scene c.layout.data_base) ≡ true =
        rw (kind_is, (byte_is_lem sg last).f32, reach sg (sums_to (tag_words c) i).pathseg_offset c.scene c.layout.data_base d.few room) in
        rw seg_head (rest_found i drawn_head none fill.no_stroke found-there points ∙ ap Ok (sym seg_is))

    -- ---- its points

    point_is : (k : ℕ) → point_of c.layout c.scene (head_at c i) k ≡ f32_point c.scene (data_at c i + k * 2)
    unfolding point_of tag_data point_at point_words
    point_is k = rw (seg_is, (byte_is_lem sg last).f32)

    spot_at_lem : (k : ℕ) (q : Spot) → k * 2 + 1 < length (words_of (p ∷ spots sg)) → get_or (words_of (p ∷ spots sg)) (k * 2) 0 ≡ q.x → get_or (words_of (p ∷ spots sg)) (k * 2 + 1) 0 ≡ q.y
        → point_of c.layout c.scene (head_at c i) k ≡ commands.point_of q
    unfolding f32_point
    spot_at_lem k q m e e' =
        let n = length (words_of (p ∷ spots sg)) in
        let sum : data_at c i + k * 2 + 1 ≡ data_at c i + (k * 2 + 1) = omega arith in
        let x = word_there n (data_at c i) (k * 2) c.scene (words_of (p ∷ spots sg)) d.words (omega arith) in
        let y = word_there n (data_at c i) (k * 2 + 1) c.scene (words_of (p ∷ spots sg)) d.words m in
        point_is k ∙ rw (sum, x, y, e, e')

    seg_first : first_of g i ≡ commands.point_of p
    unfolding words_of
    seg_first = spot_at_lem 0 p (omega arith) refl refl

    last_spot : (sg : Segment) (r : Spot) → (length (spots sg) * 2 + 1 < length (words_of (r ∷ spots sg)))
        × (get_or (words_of (r ∷ spots sg)) (length (spots sg) * 2) 0 ≡ (target sg).x) × (get_or (words_of (r ∷ spots sg)) (length (spots sg) * 2 + 1) 0 ≡ (target sg).y)
    unfolding spots target words_of
    last_spot (line q) r = (lit< tt, refl, refl)
    last_spot (quad q b) r = (lit< tt, refl, refl)
    last_spot (cubic q b t) r = (lit< tt, refl, refl)

    seg_last : last_of g i ≡ commands.point_of (target sg)
    unfolding tag_data
    seg_last =
        let k = last_spot sg p in
        let kind : (head_at c i).tag.tag_byte % 4 ≡ length (spots sg) = ap (λ (h : Head). h.tag.tag_byte % 4) seg_is ∙ kind_is in
        ap (point_of c.layout c.scene (head_at c i)) kind ∙ spot_at_lem (length (spots sg)) (target sg) k.0 k.1 k.2

    -- ---- its rules

    seg_six : six_words g i ≡ six_at c.scene (c.layout.transform_base + transform_at c 2 * 6)
    unfolding tag_data
    seg_six =
        ap (λ (h : Head). six_at c.scene (c.layout.transform_base + h.tag.monoid.trans_ix * 6)) seg_is
        ∙ ap (λ (n : ℕ). six_at c.scene (c.layout.transform_base + (n + (2 ^ 32 - 1)) % 2 ^ 32 * 6)) d.under.transform

    seg_fine : eqb (bit fill.flags 0x40000000) 1 ≡ false → aligned_to (six_words g i) (six_words g (leading g i)) ≡ true
        → cond last (not (eq_of (last_of g i) (first_of g (beginning g i)))) (eqb (segments g (fills.tags c)) (segments g (suc i))) ≡ false → leb 4096 (segments g i) ≡ false → rule_at g i ≡ None
    unfolding facts_at broken70 broken71 broken72 broken73 broken74 broken75 tag_data
    seg_fine odd al sh many =
        let stroke : is_stroke (head_at c i) ≡ false = ap is_stroke seg_is ∙ fill.no_stroke in
        let even : is_even_odd (head_at c i) ≡ false = ap is_even_odd seg_is ∙ odd in
        let w : wide (head_at c i).tag.tag_byte ≡ true = ap (λ (h : Head). wide h.tag.tag_byte) seg_is ∙ (byte_is_lem sg last).f32 in
        fine_is (facts_at g i) (record { r70 = rw (seg_some, stroke); r71 = rw (seg_some, even); r72 = rw (seg_some, w); r73 = rw (seg_some, al); r74 = rw (seg_some, seg_end, sh); r75 = rw (seg_some, many) })

-- ---- sums of styles

-- a segment's byte begins no style
drawn_style : (sg : Segment) (last : Bool) → (tag_sums (tag_byte sg last)).style_ix ≡ 0
unfolding tag_byte tag_sums spots commands.tag_of
drawn_style (line a) true = refl
drawn_style (line a) false = refl
drawn_style (quad a b) true = refl
drawn_style (quad a b) false = refl
drawn_style (cubic a b d) true = refl
drawn_style (cubic a b d) false = refl

below_none : (word p : ℕ) → ((q : ℕ) → q < p → (tag_sums (byte_at word q)).style_ix ≡ 0) → (sums_below word p).style_ix ≡ 0
unfolding sums_below plus
below_none word zero k = refl
below_none word (suc p) k = omega (arith, below_none word p (λ q l. k q (omega arith)), k p (omega arith))

style_small : (ts : List ℕ) (i : ℕ) → (sums_to ts i).style_ix < 2 ^ 32
unfolding sums_to plus
style_small ts zero = omega arith
style_small ts (suc i) = omega arith

-- ---- counts

at_most : (b : Bool) → once b ≤ 1
unfolding once
at_most true = omega arith
at_most false = omega arith

grows : (g : Given) (a n : ℕ) → segments g a ≤ segments g (a + n)
unfolding segments
grows g a zero = let e : a + 0 ≡ a = omega arith in rw e (omega arith)
grows g a (suc n) = let e : a + suc n ≡ suc (a + n) = omega arith in rw e (omega (arith, grows g a n))

few_from : (g : Given) (n : ℕ) → segments g 2 ≡ 0 → segments g (2 + n) ≤ n
unfolding segments
few_from g zero z = omega (arith, z)
few_from g (suc n) z = let e : 2 + suc n ≡ suc (2 + n) = omega arith in rw e (omega (arith, few_from g n z, at_most (has_segment (head_of g (2 + n)))))

counted_more : (g : Given) (i : ℕ) → has_segment (head_of g i) ≡ true → segments g (suc i) ≡ segments g i + 1
unfolding segments once
counted_more g i h = rw h

same_itself : (ws : List ℕ) → same_words ws ws ≡ true
unfolding same_words
same_itself [] = refl
same_itself (w ∷ ws) = rw (eq-eqb w w refl) (same_itself ws)

-- ---- the whole sheet

module _ (tags points : List ℕ) (cs : List Command) (e : Finished (left tags points cs)) (c : Call) (s : LayUp c (left tags points cs)) where
  n : ℕ
  n = (left tags points cs).pen.tags

  abbrev N : ℕ
  N = fills.tags c

  abbrev scene : Given
  scene = scene_of c

  begins : Begins c
  begins = sheet_begins c s.transform_tag s.style_tag

  transform_there : is_ok (transform_of c.scene c.layout.transform_base (transform_at c 2)) ≡ true
  transform_there = ap (λ (k : ℕ). is_ok (transform_of c.scene c.layout.transform_base k)) begins.first_transform ∙ s.there

  -- which tag draws what
  record At (i : ℕ) : Type 0 where
    p : Spot
    sg : Segment
    last : Bool
    drawn : Drawn c 2 i p sg last

  find_in : (i j : ℕ) (p : Spot) (gs : List Segment) → Walk c 2 i p gs → i ≤ j → j < i + length gs → At j
  unfolding Walk
  find_in i j p [] w a l = absurd (omega arith)
  find_in i j p (g ∷ []) w a l = let k : i ≡ j = omega arith in subst At k (record { p = p; sg = g; last = true; drawn = w })
  find_in i j p (g ∷ h ∷ gs) w a l =
      elim (ℕ_discrete i j) [
        | yes k ↦ subst At k (record { p = p; sg = g; last = false; drawn = w.0 })
        | no ne ↦ find_in (suc i) j (target g) (h ∷ gs) w.1 (omega (arith, ne)) (omega arith)
      ]

  find : (i j : ℕ) (ss : List Subpath) → Walks c 2 i ss → i ≤ j → j < i + length (tags_of ss) → At j
  unfolding Walks tags_of
  find i j [] w a l = absurd (omega arith)
  find i j (t ∷ ss) w a l =
      elim (dec_lt j (i + length t.segments)) [
        | yes k ↦ find_in i j t.start t.segments w.0 a k
        | no ne ↦ find (i + length t.segments) j ss w.1 (omega (arith, ne)) (omega (arith, size_of_lem t ss))
      ]

  count : n ≡ length (tags_of (subpaths tags points cs))
  unfolding n
  count = (encoded tags points cs e).its_tags.count

  at : (i : ℕ) → 2 ≤ i → i < 2 + n → At i
  at i a l = find 2 i (subpaths tags points cs) (walked tags points cs e c 2 s.drawn) a (omega (arith, l, count))

  in_call : 2 + n < N
  unfolding n
  in_call = s.in_call

  -- ---- styles

  -- no tag from tag 2 on begins one
  no_style : (j : ℕ) → 2 ≤ j → j < N → (tag_sums (byte_of (tag_words c) j)).style_ix ≡ 0
  unfolding tag_sums n
  no_style j a l =
      elim (dec_lt j (2 + n)) [
        | yes k ↦ let d = at j a k in ap (λ (b : ℕ). (tag_sums b).style_ix) d.drawn.byte ∙ drawn_style d.sg d.last
        | no ne ↦ elim (ℕ_discrete j (2 + n)) [ yes k ↦ rw (k, s.path_tag) | no nk ↦ rw (s.nothing_more j (omega (arith, ne, nk)) l) ]
      ]

  step_style : (k m : ℕ) → k < N → 2 ≤ k → (sums_to (tag_words c) k).style_ix ≡ m → (sums_to (tag_words c) (suc k)).style_ix ≡ m
  unfolding sums_to plus
  step_style k m l a r = omega (arith, r, no_style k a l, style_small (tag_words c) k)

  style_stays : (k : ℕ) → 2 + k < N → (sums_to (tag_words c) (2 + k)).style_ix ≡ (sums_to (tag_words c) 2).style_ix
  style_stays zero l = refl
  style_stays (suc k) l = let q : 2 + suc k ≡ suc (2 + k) = omega arith in rw q (step_style (2 + k) _ (omega arith) (omega arith) (style_stays k (omega arith)))

  abbrev flags : ℕ → Read ℕ
  flags ix = flags_of c.scene c.layout.style_base ix

  -- the flags that a tag reads
  record FlagsAt (i : ℕ) : Type 0 where
    w : ℕ
    read : flags (its_tag c s.fresh s.lent i).monoid.style_ix ≡ Ok w

  head_flags : (i : ℕ) → i ≤ 1 → (sums_to (tag_words c) i).style_ix ≡ 0 → eqb (byte_of (tag_words c) i) 0 ≡ false → FlagsAt i
  unfolding tag_data
  head_flags i l z b = record { w = s.flags_before; read = rw (sums_at_lem (tag_words c) i b, z) s.before_styles }

  flags_0 : FlagsAt 0
  unfolding sums_to
  flags_0 = head_flags 0 (omega arith) refl (ap (λ (b : ℕ). eqb b 0) s.transform_tag)

  flags_1 : FlagsAt 1
  unfolding sums_to plus tag_sums
  flags_1 = head_flags 1 (omega arith) (rw s.transform_tag) (ap (λ (b : ℕ). eqb b 0) s.style_tag)

  path_flags : flags (its_tag c s.fresh s.lent (2 + n)).monoid.style_ix ≡ Ok s.fill.flags
  unfolding tag_data n
  path_flags = rw (sums_at_lem (tag_words c) (2 + n) (ap (λ (b : ℕ). eqb b 0) s.path_tag), style_stays n s.in_call) s.fill.read

  three_tags : byte_of (tag_words c) 2 ≡ 0x10 → (sums_below (get_or (tag_words c) 0 0) 3).style_ix ≡ 2
  unfolding sums_below plus tag_sums byte_of
  three_tags k = rw (s.transform_tag, s.style_tag, k)

  first_word : (i : ℕ) → 2 + n < i → i / 4 ≡ 0 → (sums_below (get_or (tag_words c) (i / 4) 0) (i % 4)).style_ix ≡ 2
  unfolding n
  first_word i a z =
      let m : i % 4 ≡ 3 = omega arith in
      let none : 2 + (left tags points cs).pen.tags ≡ 2 = omega arith in
      rw (z, m) (three_tags (ap (byte_of (tag_words c)) (sym none) ∙ s.path_tag))

  byte_there : (i q : ℕ) → q < 4 → (tag_sums (byte_of (tag_words c) (4 * (i / 4) + q))).style_ix ≡ 0 → (tag_sums (byte_at (get_or (tag_words c) (i / 4) 0) q)).style_ix ≡ 0
  unfolding byte_of
  byte_there i q k h =
      let m : (4 * (i / 4) + q) / 4 ≡ i / 4 = omega arith in
      let r : (4 * (i / 4) + q) % 4 ≡ q = omega arith in
      rw (m, r) at h

  -- a zero byte has the sums of its own word alone
  zero_style : (i : ℕ) → 2 + n < i → i < N → ((sums_below (get_or (tag_words c) (i / 4) 0) (i % 4)).style_ix ≡ 0) ⊎ ((sums_below (get_or (tag_words c) (i / 4) 0) (i % 4)).style_ix ≡ 2)
  zero_style i a l =
      elim (ℕ_discrete (i / 4) 0) [
        | yes z ↦ inr (first_word i a z)
        | no ne ↦ inl (below_none (get_or (tag_words c) (i / 4) 0) (i % 4) (λ q k. byte_there i q (omega arith) (no_style (4 * (i / 4) + q) (omega (arith, ne)) (omega arith))))
      ]

  zero_sums : (i : ℕ) → byte_of (tag_words c) i ≡ 0 → sums_at (tag_words c) i ≡ sums_below (get_or (tag_words c) (i / 4) 0) (i % 4)
  unfolding sums_at placed
  zero_sums i z = rw z

  zero_flags : (i : ℕ) → 2 + n < i → i < N → FlagsAt i
  unfolding tag_data n
  zero_flags i a l =
      let z = zero_sums i (s.nothing_more i a l) in
      elim (zero_style i a l) [
        | inl k ↦ record { w = s.flags_before; read = rw (z, k) s.before_styles }
        | inr k ↦ record { w = s.fill.flags; read = rw (z, k) (ap flags (sym begins.first_style) ∙ s.fill.read) }
      ]

  -- ---- tags with no segment

  abbrev f : FreshCall c
  f = s.fresh

  record Silent (i : ℕ) : Type 0 where
    read : read_at scene i ≡ Ok (head_at c i)
    fine : rule_at scene i ≡ None
    segment : has_segment (head_at c i) ≡ false

  silent : (i b : ℕ) → i < N → FlagsAt i → byte_of (tag_words c) i ≡ b → b % 4 ≡ 0 → eqb (bit b 0x10) 1 ≡ false → eqb (bit b 0x04) 1 ≡ false → Silent i
  silent i b l w k kindless path end =
      let byte : (head_at c i).tag.tag_byte ≡ b = its_byte c f s.lent i w.w l w.read ∙ k in
      let kind : byte_of (tag_words c) i % 4 ≡ 0 = ap (λ (b : ℕ). b % 4) k ∙ kindless in
      let no_path : is_path (head_at c i) ≡ false = ap (λ (b : ℕ). eqb (bit b 0x10) 1) byte ∙ path in
      record {
        read = plain_read c f s.lent i w.w l w.read kind;
        fine = plain_fine c f s.lent i w.w l w.read kind (rw no_path) (rw no_path) (ap (λ (b : ℕ). eqb (bit b 0x04) 1) byte ∙ end);
        segment = plain_none c f s.lent i w.w l w.read kind;
      }

  silent_0 : Silent 0
  silent_0 = silent 0 0x20 (omega (arith, in_call)) flags_0 s.transform_tag refl refl refl

  silent_1 : Silent 1
  silent_1 = silent 1 0x40 (omega (arith, in_call)) flags_1 s.style_tag refl refl refl

  silent_zero : (i : ℕ) → 2 + n < i → i < N → Silent i
  unfolding n
  silent_zero i a l = silent i 0 l (zero_flags i a l) (s.nothing_more i a l) refl refl refl

  silent_path : Silent (2 + n)
  unfolding n
  silent_path =
      let l = s.in_call in
      let w = s.fill.flags in
      let r = path_flags in
      let head = its_head c f s.lent (2 + n) w l r in
      let byte : (head_at c (2 + n)).tag.tag_byte ≡ 0x10 = its_byte c f s.lent (2 + n) w l r ∙ s.path_tag in
      let kind : byte_of (tag_words c) (2 + n) % 4 ≡ 0 = ap (λ (b : ℕ). b % 4) s.path_tag in
      let stroke : is_stroke (head_at c (2 + n)) ≡ false = ap is_stroke head ∙ s.fill.no_stroke in
      let odd : is_even_odd (head_at c (2 + n)) ≡ false = ap is_even_odd head ∙ s.nonzero in
      record {
        read = plain_read c f s.lent (2 + n) w l r kind;
        fine = plain_fine c f s.lent (2 + n) w l r kind (and_false (is_path (head_at c (2 + n))) _ stroke) (and_false (is_path (head_at c (2 + n))) _ odd) (ap (λ (b : ℕ). eqb (bit b 0x04) 1) byte);
        segment = plain_none c f s.lent (2 + n) w l r kind;
      }
    where
      and_false : (a b : Bool) → b ≡ false → a && b ≡ false
      and_false true b h = h
      and_false false b h = refl

  none_yet : segments scene 2 ≡ 0
  unfolding segments once
  none_yet = rw (silent_0.segment, silent_1.segment)

  shut_yet : open_at scene 2 ≡ false
  unfolding open_at
  shut_yet = rw (silent_0.segment, silent_1.segment)

  -- ---- segments

  module _ (i : ℕ) (lo : 2 ≤ i) (hi : i < 2 + n) where
    here : At i
    here = at i lo hi

    within : i < N
    within = omega (arith, hi, in_call)

    read_here : read_at scene i ≡ Ok (head_at c i)
    read_here = seg_read c f s.lent s.fill transform_there i within here.p here.sg here.last here.drawn

    segment_here : has_segment (head_at c i) ≡ true
    segment_here = seg_some c f s.lent s.fill transform_there i within here.p here.sg here.last here.drawn

    six_here : six_words scene i ≡ six_at c.scene (c.layout.transform_base + transform_at c 2 * 6)
    six_here = seg_six c f s.lent s.fill transform_there i within here.p here.sg here.last here.drawn

    few_here : leb 4096 (segments scene i) ≡ false
    unfolding n
    few_here =
        let k = few_from scene (i - 2) none_yet in
        let q : 2 + (i - 2) ≡ i = omega arith in
        lt-leb 4096 (segments scene i) (subst (λ (j : ℕ). segments scene j < 4096) q (omega (arith, k, s.few, hi)))

  first_leads : leading scene 2 ≡ 2
  unfolding leading
  first_leads = rw none_yet

  leads_two : (i : ℕ) → 2 ≤ i → i < 2 + n → leading scene i ≡ 2
  unfolding Leads
  leads_two i lo hi =
      elim (ℕ_discrete i 2) [
        | yes k ↦ ap (leading scene) k ∙ first_leads
        | no ne ↦ (leads scene 2 i (omega (arith, ne)) (segment_here 2 (omega arith) (omega (arith, hi)))).0 ∙ first_leads
      ]

  aligned_here : (i : ℕ) → 2 ≤ i → i < 2 + n → aligned_to (six_words scene i) (six_words scene (leading scene i)) ≡ true
  unfolding aligned_to
  aligned_here i lo hi =
      let six = six_at c.scene (c.layout.transform_base + transform_at c 2 * 6) in
      let base : c.layout.transform_base + transform_at c 2 * 6 ≡ c.layout.transform_base = omega (arith, begins.first_transform) in
      let straight-here : straight six ≡ true = ap (λ (k : ℕ). straight (six_at c.scene k)) base ∙ s.no_shear in
      let own : six_words scene i ≡ six = six_here i lo hi in
      let other : six_words scene (leading scene i) ≡ six = ap (six_words scene) (leads_two i lo hi) ∙ six_here 2 (omega arith) (omega (arith, hi)) in
      rw (other, own, same_itself six, straight-here)

  more_to_come : (i : ℕ) → 2 ≤ suc i → suc i < 2 + n → eqb (segments scene N) (segments scene (suc i)) ≡ false
  more_to_come i lo hi =
      let k = grows scene (suc (suc i)) (N - suc (suc i)) in
      let q : suc (suc i) + (N - suc (suc i)) ≡ N = omega (arith, hi, in_call) in
      let m : segments scene (suc (suc i)) ≤ segments scene N = subst (λ (j : ℕ). segments scene (suc (suc i)) ≤ segments scene j) q k in
      let one = counted_more scene (suc i) (segment_here (suc i) lo hi) in
      ne_eqb (segments scene N) (segments scene (suc i)) (λ h. omega (arith, m, h, one))

  -- ---- subpaths

  open_behind : (i : ℕ) (b : Bool) → has_segment (head_at c i) ≡ true → has_end (head_at c i) ≡ b → open_at scene (suc i) ≡ not b
  unfolding open_at
  open_behind i b h k = rw (h, k)

  begun_behind : (i : ℕ) → open_at scene (suc i) ≡ true → beginning scene (suc i) ≡ beginning scene i
  unfolding beginning
  begun_behind i h = rw h

  FineFrom : ℕ → ℕ → Type 0
  FineFrom i m = (k : ℕ) → i ≤ k → k < i + m → rule_at scene k ≡ None

  module _ (i : ℕ) (lo : 2 ≤ i) (p : Spot) (sg : Segment) (last : Bool) (d : Drawn c 2 i p sg last) (l : i < N) where
    abbrev some_here : has_segment (head_at c i) ≡ true
    some_here = seg_some c f s.lent s.fill transform_there i l p sg last d

    abbrev end_here : has_end (head_at c i) ≡ last
    end_here = seg_end c f s.lent s.fill transform_there i l p sg last d

    fine_here : i < 2 + n → cond last (not (eq_of (last_of scene i) (first_of scene (beginning scene i)))) (eqb (segments scene N) (segments scene (suc i))) ≡ false → rule_at scene i ≡ None
    fine_here hi h = seg_fine c f s.lent s.fill transform_there i l p sg last d s.nonzero (aligned_here i lo hi) h (few_here i lo hi)

  fine_walk : (from j : ℕ) (start q : Spot) (sg : Segment) (gs : List Segment) → Walk c 2 j q (sg ∷ gs) → 2 ≤ j → j + length (sg ∷ gs) ≤ 2 + n
      → beginning scene j ≡ from → first_of scene from ≡ commands.point_of start → same (end_of q (sg ∷ gs)) start ≡ true
      → FineFrom j (length (sg ∷ gs)) × (open_at scene (j + length (sg ∷ gs)) ≡ false)
  unfolding Walk end_of FineFrom same
  fine_walk from j start q sg [] w lo hi b st sh =
      let l : j < N = omega (arith, hi, in_call) in
      let shut : not (eq_of (last_of scene j) (first_of scene (beginning scene j))) ≡ false = rw (b, st, seg_last c f s.lent s.fill transform_there j l q sg true w, sh) in
      let one : j + 1 ≡ suc j = omega arith in
      let fine = fine_here j lo q sg true w l (omega (arith, hi)) shut in (
        (λ k a m. let same_tag : j ≡ k = omega arith in subst (λ (i : ℕ). rule_at scene i ≡ None) same_tag fine),
        rw one (open_behind j true (some_here j lo q sg true w l) (end_here j lo q sg true w l)),
      )
  fine_walk from j start q sg (h ∷ gs) w lo hi b st sh =
      let l : j < N = omega (arith, hi, in_call) in
      let opens : open_at scene (suc j) ≡ true = open_behind j false (some_here j lo q sg false w.0 l) (end_here j lo q sg false w.0 l) in
      let rest = fine_walk from (suc j) start (target sg) h gs w.1 (omega arith) (omega (arith, hi)) (begun_behind j opens ∙ b) st sh in
      let more-behind = more_to_come j (omega arith) (omega (arith, hi)) in
      let fine = fine_here j lo q sg false w.0 l (omega (arith, hi)) more-behind in
      let size : suc j + length (h ∷ gs) ≡ j + length (sg ∷ h ∷ gs) = omega arith in (
        (λ k a m. elim (ℕ_discrete j k) [ yes t ↦ subst (λ (i : ℕ). rule_at scene i ≡ None) t fine | no ne ↦ rest.0 k (omega (arith, ne)) (omega arith) ]),
        subst (λ (i : ℕ). open_at scene i ≡ false) size rest.1,
      )

  starts_at_lem : (i : ℕ) (p : Spot) (sg : Segment) (gs : List Segment) → Walk c 2 i p (sg ∷ gs) → i < N → first_of scene i ≡ commands.point_of p
  unfolding Walk
  starts_at_lem i p sg [] w l = seg_first c f s.lent s.fill transform_there i l p sg true w
  starts_at_lem i p sg (h ∷ gs) w l = seg_first c f s.lent s.fill transform_there i l p sg false w.0

  fine_subpath : (i : ℕ) (t : Subpath) → closed.Closed t → Walk c 2 i t.start t.segments → 2 ≤ i → i + length t.segments ≤ 2 + n → open_at scene i ≡ false
      → FineFrom i (length t.segments) × (open_at scene (i + length t.segments) ≡ false)
  fine_subpath i t k w lo hi o = go t.segments k.segments k.shut w hi
    where
      go : (gs : List Segment) → gs ≡ k.first ∷ k.others → same (end_of t.start gs) t.start ≡ true → Walk c 2 i t.start gs → i + length gs ≤ 2 + n
          → FineFrom i (length gs) × (open_at scene (i + length gs) ≡ false)
      go [] q h w hi = let z : ◌≡◌ {A = ℕ} 0 1 = cc in absurd (omega arith)
      go (sg ∷ gs) q h w hi = fine_walk i i t.start t.start sg gs w lo hi (begins_here scene i o) (starts_at_lem i t.start sg gs w (omega (arith, hi, in_call))) h

  fine_all : (i : ℕ) (ss : List Subpath) → Every closed.Closed ss → Walks c 2 i ss → 2 ≤ i → i + length (tags_of ss) ≤ 2 + n → open_at scene i ≡ false → FineFrom i (length (tags_of ss))
  unfolding Walks FineFrom tags_of
  fine_all i [] none w lo hi o k a m = absurd (omega arith)
  fine_all i (t ∷ ss) (more h hs) w lo hi o k a m =
      let size = size_of_lem t ss in
      let one = fine_subpath i t h w.0 lo (omega (arith, size)) o in
      elim (dec_lt k (i + length t.segments)) [
        | yes q ↦ one.0 k a q
        | no ne ↦ fine_all (i + length t.segments) ss hs w.1 (omega arith) (omega (arith, size)) one.1 k (omega (arith, ne)) (omega (arith, size))
      ]

  fine_drawn : FineFrom 2 n
  unfolding FineFrom
  fine_drawn k a m = fine_all 2 (subpaths tags points cs) (all_closed tags points cs) (walked tags points cs e c 2 s.drawn) (omega arith) (omega (arith, count)) shut_yet k a (omega (arith, m, count))

  -- ---- the theorem

  each_tag : (i : ℕ) → i < N → (read_at scene i ≡ Ok (head_at c i)) × (rule_at scene i ≡ None)
  unfolding FineFrom
  each_tag i l =
      elim (dec_lt i 2) [
        | yes a ↦ elim (ℕ_discrete i 0) [
          | yes z ↦ subst (λ (j : ℕ). (read_at scene j ≡ Ok (head_at c j)) × (rule_at scene j ≡ None)) (sym z) (silent_0.read, silent_0.fine)
          | no nz ↦ let o : 1 ≡ i = omega (arith, a, nz) in subst (λ (j : ℕ). (read_at scene j ≡ Ok (head_at c j)) × (rule_at scene j ≡ None)) o (silent_1.read, silent_1.fine)
        ]
        | no lo ↦ elim (dec_lt i (2 + n)) [
          | yes hi ↦ (read_here i (omega (arith, lo)) hi, fine_drawn i (omega (arith, lo)) hi)
          | no above ↦ elim (ℕ_discrete (2 + n) i) [
            | yes z ↦ subst (λ (j : ℕ). (read_at scene j ≡ Ok (head_at c j)) × (rule_at scene j ≡ None)) z (silent_path.read, silent_path.fine)
            | no nz ↦ let r = silent_zero i (omega (arith, above, nz)) l in (r.read, r.fine)
          ]
        ]
      ]

  bases_inside : (start_of c.layout (length c.scene)).stop ≡ None
  unfolding start_of first_turn
  bases_inside = rw (le-ltb _ _ s.tag_base, le-ltb _ _ s.data_base)

  -- what drawing commands left passes the profile in such a sheet, up to 4,096 segments
  pub drawn_passes : profile_of scene ≡ passed (segments scene N) (rules.subpaths scene N)
  drawn_passes = passes scene (record { bases = bases_inside; read = λ i l. (each_tag i l).0; fine = λ i l. (each_tag i l).1 })
