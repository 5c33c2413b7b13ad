-- From commands to lines: each subpath that they mean is a closed run, so that an accepted call on it is watertight. Assumes nothing.
use Rattle.std.specs.Prelude.{ℕ, suc, ◌+◌, ◌-◌, ◌*◌, ◌%◌, ◌^◌, ◌<◌, ◌≤◌, ◌≡◌, Bool, get_or, drop, Ok}
use Rattle.std.proofs.Math.Path.{refl, ap}
use Rattle.std.proofs.Common.{sym, ◌∙◌, subst, lit<, get_or-take, get_or-drop}
use Rattle.std.proofs.Math.Bool.{true, false}
use mathlib.Core.List.{List, [], ◌∷◌}
use native.Mathlib.Omega.{arith}
use Rattle.std.proofs.Math.Dec.{eqb}
use Rattle.std.proofs.Math.ListN.{length, take}
use Rattle.scene.specs.Tags.{bit, tag_data}
use Rattle.scene.specs.Reading.{f32_point, point_words, point_at, flags_of}
use Rattle.scene.specs.Fresh.{byte_of, sums_to}
use Rattle.scene.specs.FreshLaws.{sums_at_lem, fresh_tag}
use Rattle.scene.specs.declared.tags.PathTagData.{PathTagData}
use Rattle.flatten.specs.Found.{HeadParts, head_parts}
use Rattle.pattern.specs.Commands.{same, words_of, numbers, Segment, line, quad, cubic, spots, target, Command}
use Rattle.pattern.specs.Commands as commands
use Rattle.pattern.specs.Meaning.{Subpath, end_of, all_spots, tags_of}
use Rattle.pattern.specs.Encoded.{words_append, encoded}
use Rattle.pattern.specs.Every.{Every, none, more}
use Rattle.pattern.specs.Closed.{same_self, all_closed, numbers_append, numbers_parts}
use Rattle.pattern.specs.Closed as closed
use Rattle.pattern.specs.declared.pen.Spot.{Spot}
use Rattle.watertight.specs.Fill.{Call, Accepted, tags, head_of, point_of, first_of, last_of, type_of, Filled, Each, Meets, Follows, final}
use Rattle.watertight.specs.Fill as fills
use Rattle.watertight.specs.Accepted.{done}
use Rattle.watertight.specs.Watertight.{watertight, watertight_stored}
use Rattle.outlines.specs.Placing.{left, subpaths, Finished, tag_words, FreshCall, data_at, style_at, six_words, FillAt, Placed, tags_from, outlines, ClosedRun, Watertight}
use Rattle.outlines.specs.Walk.{tag_byte, Drawn, Walk, Walks}
use Rattle.outlines.specs.Decode.{byte_is_lem, size_of_lem, walked}

-- a word that was found stands in the scene
pub word_there : (n d j : ℕ) (scene ws : List ℕ) → take n (drop d scene) ≡ ws → j < n → get_or scene (d + j) 0 ≡ get_or ws j 0
word_there n d j scene ws e l = sym (get_or-drop d scene j 0) ∙ sym (get_or-take n (drop d scene) j 0 l) ∙ ap (λ (xs : List ℕ). get_or xs j 0) e

-- ---- a tag that draws a segment

module _ (c : Call) (a : Accepted c) (f : FreshCall c) (at : ℕ) (fill : FillAt c at) where
  module _ (i : ℕ) (in_call : i < tags c) (p : Spot) (g : Segment) (last : Bool) (d : Drawn c at i p g last) where
    parts : HeadParts c.layout c.scene c.prefixes (length c.boxes) i (head_of c i)
    parts = head_parts c.layout c.scene c.prefixes (length c.boxes) i (head_of c i) ((done c a).sound i in_call).head

    its_tag_lem : (head_of c i).tag ≡ tag_data (tag_byte g last) (sums_to (tag_words c) i)
    its_tag_lem =
        let some = subst (λ (b : ℕ). eqb b 0 ≡ false) (sym d.byte) (byte_is_lem g last).some in
        (fresh_tag c.scene c.layout.tag_base c.prefixes f i (head_of c i).tag parts.tag).1
        ∙ ap (tag_data (byte_of (tag_words c) i)) (sums_at_lem (tag_words c) i some)
        ∙ ap (λ (b : ℕ). tag_data b (sums_to (tag_words c) i)) d.byte

    its_flags : (head_of c i).flags ≡ fill.flags
    unfolding tag_data
    its_flags =
        let style = ap (λ (t : PathTagData). t.monoid.style_ix) its_tag_lem in
        let there : style_at c i ≡ style_at c at = ap (λ (n : ℕ). (n + (2 ^ 32 - 2)) % 2 ^ 32) d.under.style in
        let k : flags_of c.scene c.layout.style_base (head_of c i).tag.monoid.style_ix ≡ Ok fill.flags =
        ap (flags_of c.scene c.layout.style_base) (style ∙ there) ∙ fill.read in
        cc parts.flags

    pub its_type : type_of c i ≡ length (spots g)
    unfolding tag_data
    its_type = ap (λ (t : PathTagData). t.tag_byte % 4) its_tag_lem ∙ (byte_is_lem g last).type

    some_points : (g : Segment) → eqb (length (spots g)) 0 ≡ false
    unfolding spots
    some_points (line p) = refl
    some_points (quad p q) = refl
    some_points (cubic p q r) = refl

    pub filled : Filled c (six_words c at) i
    unfolding tag_data
    filled =
        record {
          in_call = in_call;
          segment = ap (λ (n : ℕ). eqb n 0) its_type ∙ some_points g;
          no_stroke = ap (λ (w : ℕ). eqb (bit w 0x80000000) 1) its_flags ∙ fill.no_stroke;
          transform =
              ap (λ (t : PathTagData). take 6 (drop (c.layout.transform_base + t.monoid.trans_ix * 6) c.scene)) its_tag_lem
              ∙ ap (λ (n : ℕ). take 6 (drop (c.layout.transform_base + (n + (2 ^ 32 - 1)) % 2 ^ 32 * 6) c.scene)) d.under.transform;
        }

    -- its point k, by two words of its data
    point_is : (k : ℕ) → point_of c i k ≡ f32_point c.scene (data_at c i + k * 2)
    unfolding point_of tag_data point_at point_words
    point_is k = rw (its_tag_lem, (byte_is_lem g last).f32)

    pub spot_at_lem : (k : ℕ) (q : Spot) → k * 2 + 1 < length (words_of (p ∷ spots g)) → get_or (words_of (p ∷ spots g)) (k * 2) 0 ≡ q.x → get_or (words_of (p ∷ spots g)) (k * 2 + 1) 0 ≡ q.y
        → point_of c i k ≡ commands.point_of q
    unfolding f32_point
    spot_at_lem k q l e e' =
        let n = length (words_of (p ∷ spots g)) in
        let sum : data_at c i + k * 2 + 1 ≡ data_at c i + (k * 2 + 1) = omega arith in
        let x = word_there n (data_at c i) (k * 2) c.scene (words_of (p ∷ spots g)) d.words (omega arith) in
        let y = word_there n (data_at c i) (k * 2 + 1) c.scene (words_of (p ∷ spots g)) d.words l in
        point_is k ∙ rw (sum, x, y, e, e')

    first_is : first_of c i ≡ commands.point_of p
    unfolding words_of
    first_is = spot_at_lem 0 p (omega arith) refl refl

    last_spot : (g : Segment) (r : Spot) → (length (spots g) * 2 + 1 < length (words_of (r ∷ spots g)))
        × (get_or (words_of (r ∷ spots g)) (length (spots g) * 2) 0 ≡ (target g).x) × (get_or (words_of (r ∷ spots g)) (length (spots g) * 2 + 1) 0 ≡ (target g).y)
    unfolding spots target words_of
    last_spot (line q) r = (lit< tt, refl, refl)
    last_spot (quad q s) r = (lit< tt, refl, refl)
    last_spot (cubic q s t) r = (lit< tt, refl, refl)

    last_is : last_of c i ≡ commands.point_of (target g)
    last_is = let k = last_spot g p in ap (point_of c i) its_type ∙ spot_at_lem (length (spots g)) (target g) k.0 k.1 k.2

  -- ---- a subpath

  -- the end of a segment of numbers
  target_sound : (g : Segment) → numbers (words_of (spots g)) ≡ true → numbers (words_of (target g ∷ [])) ≡ true
  unfolding spots target
  target_sound (line q) h = h
  target_sound (quad q r) h = (numbers_parts (words_of (q ∷ [])) (words_of (r ∷ [])) (ap numbers (sym (words_append (q ∷ []) (r ∷ []))) ∙ h)).1
  target_sound (cubic q r s) h = (numbers_parts (words_of (q ∷ r ∷ [])) (words_of (s ∷ [])) (ap numbers (sym (words_append (q ∷ r ∷ []) (s ∷ []))) ∙ h)).1

  -- the points behind a segment's start are numbers, its end among them
  onward : (p : Spot) (g : Segment) (gs : List Segment) → numbers (words_of (p ∷ all_spots (g ∷ gs))) ≡ true
      → (numbers (words_of (target g ∷ [])) ≡ true) × (numbers (words_of (target g ∷ all_spots gs)) ≡ true)
  unfolding all_spots
  onward p g gs h =
      let k = numbers_parts (words_of (p ∷ spots g)) (words_of (all_spots gs)) (ap numbers (sym (words_append (p ∷ spots g) (all_spots gs))) ∙ h) in
      let own = numbers_parts (words_of (p ∷ [])) (words_of (spots g)) (ap numbers (sym (words_append (p ∷ []) (spots g))) ∙ k.0) in
      let t = target_sound g own.1 in
      (t, ap numbers (words_append (target g ∷ []) (all_spots gs)) ∙ numbers_append (words_of (target g ∷ [])) (words_of (all_spots gs)) t k.1)

  meets : (i j : ℕ) (p q : Spot) → last_of c i ≡ commands.point_of p → first_of c j ≡ commands.point_of q → same p q ≡ true → Meets c i j
  unfolding same
  meets i j p q e f s = rw (e, f, s) tt

  -- the tags behind the first of a subpath
  abbrev behind : ℕ → List Segment → List ℕ
  behind i gs = tags_from (suc i) (length gs)

  each_filled : (i : ℕ) (p : Spot) (g : Segment) (gs : List Segment) → i + length (g ∷ gs) ≤ tags c → Walk c at i p (g ∷ gs) → Each (Filled c (six_words c at)) (i ∷ behind i gs)
  unfolding Walk Each tags_from
  each_filled i p g [] l w = (filled i (omega arith) p g true w, tt)
  each_filled i p g (h ∷ gs) l w = (filled i (omega arith) p g false w.0, each_filled (suc i) (target g) h gs (omega arith) w.1)

  starts_there : (i : ℕ) (p : Spot) (g : Segment) (gs : List Segment) → i + length (g ∷ gs) ≤ tags c → Walk c at i p (g ∷ gs) → first_of c i ≡ commands.point_of p
  unfolding Walk
  starts_there i p g [] l w = first_is i (omega arith) p g true w
  starts_there i p g (h ∷ gs) l w = first_is i (omega arith) p g false w.0

  follows : (i : ℕ) (p : Spot) (g : Segment) (gs : List Segment) → i + length (g ∷ gs) ≤ tags c → numbers (words_of (p ∷ all_spots (g ∷ gs))) ≡ true → Walk c at i p (g ∷ gs) → Follows c i (behind i gs)
  unfolding Walk Follows tags_from
  follows i p g [] l n w = tt
  follows i p g (h ∷ gs) l n w =
      let k = onward p g (h ∷ gs) n in (
        meets i (suc i) (target g) (target g) (last_is i (omega arith) p g false w.0) (starts_there (suc i) (target g) h gs (omega arith) w.1) (same_self (target g) k.0),
        follows (suc i) (target g) h gs (omega arith) k.1 w.1,
      )

  ends_there : (i : ℕ) (p : Spot) (g : Segment) (gs : List Segment) → i + length (g ∷ gs) ≤ tags c → Walk c at i p (g ∷ gs) → last_of c (final i (behind i gs)) ≡ commands.point_of (end_of p (g ∷ gs))
  unfolding Walk final tags_from end_of
  ends_there i p g [] l w = last_is i (omega arith) p g true w
  ends_there i p g (h ∷ gs) l w = ends_there (suc i) (target g) h gs (omega arith) w.1

  of_walk : (i : ℕ) (p : Spot) (g : Segment) (gs : List Segment) → numbers (words_of (p ∷ all_spots (g ∷ gs))) ≡ true → same (end_of p (g ∷ gs)) p ≡ true
      → i + length (g ∷ gs) ≤ tags c → Walk c at i p (g ∷ gs) → ClosedRun c (tags_from i (length (g ∷ gs)))
  unfolding tags_from
  of_walk i p g gs n h l w =
      record {
        first = i;
        others = behind i gs;
        tags = refl;
        run = record { z = six_words c at; filled = each_filled i p g gs l w; follows = follows i p g gs l n w };
        closed = meets (final i (behind i gs)) i (end_of p (g ∷ gs)) p (ends_there i p g gs l w) (starts_there i p g gs l w) h;
      }

  closed_run : (i : ℕ) (s : Subpath) → closed.Closed s → i + length s.segments ≤ tags c → Walk c at i s.start s.segments → ClosedRun c (tags_from i (length s.segments))
  closed_run i s k l w = go s.segments k.segments k.sound k.shut l w
    where
      go : (gs : List Segment) → gs ≡ k.first ∷ k.others → numbers (words_of (s.start ∷ all_spots gs)) ≡ true → same (end_of s.start gs) s.start ≡ true
          → i + length gs ≤ tags c → Walk c at i s.start gs → ClosedRun c (tags_from i (length gs))
      go [] e n h l w = let z : ◌≡◌ {A = ℕ} 0 1 = cc in absurd (omega arith)
      go (g ∷ gs) e n h l w = of_walk i s.start g gs n h l w

  all_runs : (i : ℕ) (ss : List Subpath) → Every closed.Closed ss → i + length (tags_of ss) ≤ tags c → Walks c at i ss → Every (ClosedRun c) (outlines i ss)
  unfolding Walks outlines tags_of
  all_runs i [] none l w = none
  all_runs i (s ∷ ss) (more k ks) l w =
      let size = size_of_lem s ss in
      more (closed_run i s k (omega (arith, size)) w.0) (all_runs (i + length s.segments) ss ks (omega (arith, size)) w.1)

-- ---- the theorems

sealed : (c : Call) → Accepted c → (is : List ℕ) → ClosedRun c is → Watertight c is
sealed c a is r =
    subst (Watertight c) (sym r.tags)
    (record { drawn = watertight c a r.first r.others r.run r.closed; in_records = watertight_stored c a r.first r.others r.run r.closed })

every_is : {A : Type 0} {P Q : A → Type 0} {xs : List A} → ((x : A) → P x → Q x) → Every P xs → Every Q xs
every_is f none = none
every_is f (more {x} h k) = more (f x h) (every_is f k)

module _ (tags points : List ℕ) (cs : List Command) (e : Finished (left tags points cs)) (c : Call) (at : ℕ) (p : Placed c at (left tags points cs)) where
  abbrev the_outlines : List (List ℕ)
  the_outlines = outlines at (subpaths tags points cs)

  module _ (a : Accepted c) (f : FreshCall c) (fill : FillAt c at) (in_call : at + (left tags points cs).pen.tags ≤ fills.tags c) where
    -- each subpath that the accepted commands mean is a closed run in the sense of demand 3
    pub closed_runs : Every (ClosedRun c) the_outlines
    closed_runs = all_runs c a f at fill at (subpaths tags points cs) (all_closed tags points cs) (omega (arith, in_call, (encoded tags points cs e).its_tags.count)) (walked tags points cs e c at p)

    -- so its lines are watertight
    pub drawn_watertight : Every (Watertight c) the_outlines
    drawn_watertight = every_is (sealed c a) closed_runs
