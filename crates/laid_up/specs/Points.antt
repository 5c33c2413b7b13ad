-- Where segments share their points: with a fresh scan a segment starts where the one before it ended. Assumes nothing.
use Rattle.std.specs.Prelude.{ℕ, zero, suc, ◌+◌, ◌-◌, ◌*◌, ◌/◌, ◌%◌, ◌^◌, ◌<◌, ◌≤◌, max, Bool, ◌&&◌, List, eqb, ltb, leb, length, is_ok}
use Rattle.std.proofs.Math.Path.{◌≡◌, refl, ap}
use Rattle.std.proofs.Common.{sym, ◌∙◌, subst}
use Rattle.std.proofs.Math.Bool.{true, false, not}
use native.Mathlib.Omega.{arith}
use borrow.Author.Tests.{ne_eqb, eqb-false, eqb-true, ltb-true}
use Rattle.spiral.specs.declared.util.Vec2.{Vec2}
use Rattle.scene.specs.Tags.{bit, tag_sums, plus, tag_data}
use Rattle.scene.specs.Reading.{wide, point_words, point_at, f32_point, point_count, reaches, segment_of}
use Rattle.scene.specs.Fresh.{byte_of, sums_to}
use Rattle.scene.specs.FreshLaws.{sums_at_lem, sums_at, fresh_tag}
use Rattle.scene.specs.declared.tags.PathTagData.{PathTagData}
use Rattle.refusals.specs.Laws.{found_is, found_where}
use Rattle.flatten.specs.Found.{HeadParts, head_parts}
use Rattle.profile.specs.Rules.{has_segment, has_end, point_of, first_of, last_of, facts_at, broken72, broken74}
use Rattle.profile.specs.Trail.{InReach}
use Rattle.profile.specs.Parts.{head_read_lem, in_reach}
use Rattle.profile.specs.Passed.{Sound, passed_says, FineFacts, fine_says}
use Rattle.watertight.specs.Fill.{Call, tags}
use Rattle.outlines.specs.Placing.{tag_words, FreshCall, data_at}
use Rattle.laid_up.specs.Sheet.{scene_of, Passes, head_at}

-- ---- what a tag of a scene that passes keeps to

pub sound : (c : Call) → Passes c → Sound (scene_of c)
sound c p = (passed_says (scene_of c) p.segments p.subpaths p.answer).sound

pub not_seg : (b : Bool) → not b ≡ true → b ≡ false
not_seg true e = let z : ◌≡◌ {A = ℕ} 0 1 = cc in absurd (omega arith)
not_seg false e = refl

pub and_left : (a b : Bool) → a && b ≡ false → a ≡ true → b ≡ false
and_left true b e f = e
and_left false b e f = let z : ◌≡◌ {A = ℕ} 0 1 = cc in absurd (omega arith)

module _ (c : Call) (p : Passes c) (i : ℕ) (l : i < tags c) where
  pub facts : FineFacts (facts_at (scene_of c) i)
  facts = fine_says _ ((sound c p).fine i l)

  pub its_parts : HeadParts c.layout c.scene c.prefixes (2 ^ 32) i (head_at c i)
  its_parts = head_parts c.layout c.scene c.prefixes (2 ^ 32) i (head_at c i) (head_read_lem (scene_of c) i (head_at c i) ((sound c p).read i l))

  module _ (s : has_segment (head_at c i) ≡ true) where
    pub is_wide : wide (head_at c i).tag.tag_byte ≡ true
    unfolding broken72 facts_at
    is_wide = not_seg' _ (and_left _ _ facts.r72 s)
      where
        not_seg' : (b : Bool) → not b ≡ false → b ≡ true
        not_seg' true e = refl
        not_seg' false e = let z : ◌≡◌ {A = ℕ} 0 1 = cc in absurd (omega arith)

    pub reached : InReach c.layout c.scene (head_at c i)
    reached = in_reach (scene_of c) i (head_at c i) ((sound c p).read i l) (not_seg _ s)

  -- only segments have end bits
  pub no_end : has_segment (head_at c i) ≡ false → has_end (head_at c i) ≡ false
  unfolding broken74 facts_at
  no_end s = rw s at facts.r74

-- ---- where the data of a tag begins

-- every sum is a u32
small : (ts : List ℕ) (i : ℕ) → (sums_to ts i).pathseg_offset < 2 ^ 32
unfolding sums_to plus
small ts zero = omega arith
small ts (suc i) = omega arith

reach_few : (byte offset base : ℕ) (scene : List ℕ) → is_ok (segment_of byte false offset scene base) ≡ true → eqb (byte % 4) 0 ≡ false → offset + byte % 4 * point_words (wide byte) < 2 ^ 32
unfolding segment_of reaches point_count
reach_few byte offset base scene e s = go (byte % 4) (eqb-false (byte % 4) 0 s) (found_where _ _ _ _ (found_is _ e).1).0
  where
    and_first : (a b : Bool) → a && b ≡ true → a ≡ true
    and_first true b e = refl
    and_first false b e = let z : ◌≡◌ {A = ℕ} 0 1 = cc in absurd (omega arith)

    go : (k : ℕ) → (k ≡ 0 → ⊥) → ltb (offset + (max (k + 1) 2 - 1) * point_words (wide byte)) (2 ^ 32) && leb (base + offset + max (k + 1) 2 * point_words (wide byte)) (length scene) ≡ true → offset + k * point_words (wide byte) < 2 ^ 32
    go k n e =
        let h : offset + (max (k + 1) 2 - 1) * point_words (wide byte) < 2 ^ 32 = ltb-true _ _ (and_first _ _ e) in
        let m : max (k + 1) 2 - 1 ≡ k = omega (arith, n) in
        rw m at h

module _ (c : Call) (f : FreshCall c) (p : Passes c) where
  -- the point at which the data of tag i begins
  pub point_here : ℕ → Vec2
  point_here i = f32_point c.scene (data_at c i)

  module _ (i : ℕ) (l : i < tags c) where
    is_tag : (head_at c i).tag ≡ tag_data (byte_of (tag_words c) i) (sums_at (tag_words c) i)
    is_tag = (fresh_tag c.scene c.layout.tag_base c.prefixes f i (head_at c i).tag (its_parts c p i l).tag).1

    pub byte_is_lem : (head_at c i).tag.tag_byte ≡ byte_of (tag_words c) i
    unfolding tag_data
    byte_is_lem = ap (λ (t : PathTagData). t.tag_byte) is_tag

    some_byte : has_segment (head_at c i) ≡ true → eqb (byte_of (tag_words c) i) 0 ≡ false
    some_byte s = go (byte_of (tag_words c) i) (subst (λ (b : ℕ). eqb (b % 4) 0 ≡ false) byte_is_lem (not_seg _ s))
      where
        go : (b : ℕ) → eqb (b % 4) 0 ≡ false → eqb b 0 ≡ false
        go zero e = let z : ◌≡◌ {A = ℕ} 0 1 = cc in absurd (omega arith)
        go (suc b) e = ne_eqb (suc b) 0 (λ h. omega arith)

    offset_is : has_segment (head_at c i) ≡ true → (head_at c i).tag.monoid.pathseg_offset ≡ (sums_to (tag_words c) i).pathseg_offset
    unfolding tag_data
    offset_is s = ap (λ (t : PathTagData). t.monoid.pathseg_offset) is_tag ∙ ap (λ m. m.pathseg_offset) (sums_at_lem (tag_words c) i (some_byte s))

    -- a segment starts there
    pub starts_here : has_segment (head_at c i) ≡ true → first_of (scene_of c) i ≡ point_here i
    unfolding point_of point_at point_words point_here
    starts_here s =
        let none : c.layout.data_base + (sums_to (tag_words c) i).pathseg_offset + 0 * 2 ≡ data_at c i = omega arith in
        rw (is_wide c p i l s, offset_is s, none)

    behind_segment : has_segment (head_at c i) ≡ true → has_end (head_at c i) ≡ false → data_at c (suc i) ≡ data_at c i + (head_at c i).tag.tag_byte % 4 * 2
    unfolding sums_to plus tag_sums point_words
    behind_segment s e =
        let byte = (head_at c i).tag.tag_byte in
        let few = reach_few byte _ _ c.scene (reached c p i l s).points (reached c p i l s).segment in
        let few' : (sums_to (tag_words c) i).pathseg_offset + byte % 4 * 2 < 2 ^ 32 = rw (is_wide c p i l s, offset_is s) at few in
        let w : bit byte 0x08 ≡ 1 = eqb-true _ _ (is_wide c p i l s) in
        let n : bit byte 0x04 ≡ 0 = odd_not (byte / 0x04) (eqb-false _ _ e) in
        rw (← byte_is_lem) (rw (w, n) (omega (arith, few')))
      where
        odd_not : (x : ℕ) → (x % 2 ≡ 1 → ⊥) → x % 2 ≡ 0
        odd_not x h = omega (arith, h)

    -- and the next begins where one that goes on ends
    pub ends_there : has_segment (head_at c i) ≡ true → has_end (head_at c i) ≡ false → last_of (scene_of c) i ≡ point_here (suc i)
    unfolding point_of point_at point_words point_here
    ends_there s e = rw (is_wide c p i l s, offset_is s, behind_segment s e)

    -- a tag with no segment takes no data
    pub stays_there : has_segment (head_at c i) ≡ false → point_here (suc i) ≡ point_here i
    unfolding sums_to plus tag_sums point_here
    stays_there s =
        let byte = (head_at c i).tag.tag_byte in
        let k : byte % 4 ≡ 0 = eqb-true _ _ (not_false' _ s) in
        let n : bit byte 0x04 ≡ 0 = odd_not (byte / 0x04) (eqb-false _ _ (no_end c p i l s)) in
        let same : ((sums_to (tag_words c) i).pathseg_offset + (0 + 0) * (1 + bit byte 0x08)) % 2 ^ 32 ≡ (sums_to (tag_words c) i).pathseg_offset = omega (arith, small (tag_words c) i) in
        rw (← byte_is_lem) (rw (k, n, same))
      where
        odd_not : (x : ℕ) → (x % 2 ≡ 1 → ⊥) → x % 2 ≡ 0
        odd_not x h = omega (arith, h)

        not_false' : (b : Bool) → not b ≡ false → b ≡ true
        not_false' true e = refl
        not_false' false e = let z : ◌≡◌ {A = ℕ} 0 1 = cc in absurd (omega arith)

  -- the tags behind i, up to j, have no segment
  abbrev pub Between : ℕ → ℕ → Type 0
  Between i j = (k : ℕ) → i < k → k < j → has_segment (head_at c k) ≡ false

  same_there : (i n : ℕ) → i + suc n ≤ tags c → Between i (i + suc n) → point_here (suc i) ≡ point_here (i + suc n)
  same_there i zero l b = let one : suc i ≡ i + 1 = omega arith in ap point_here one
  same_there i (suc n) l b =
      let more : i + suc (suc n) ≡ suc (i + suc n) = omega arith in
      same_there i n (omega arith) (λ k h m. b k h (omega arith)) ∙ sym (stays_there (i + suc n) (omega arith) (b (i + suc n) (omega arith) (omega arith))) ∙ ap point_here (sym more)

  -- with a fresh scan a segment starts where the one before it in its subpath ended, bit for bit
  pub starts_where_ended : (i j : ℕ) → i < j → j < tags c → has_segment (head_at c i) ≡ true → has_end (head_at c i) ≡ false → has_segment (head_at c j) ≡ true → Between i j
      → last_of (scene_of c) i ≡ first_of (scene_of c) j
  starts_where_ended i j a l s e t b =
      let n = j - suc i in
      let is : i + suc n ≡ j = omega arith in
      ends_there i (omega arith) s e ∙ same_there i n (omega arith) (λ k h m. b k h (omega arith)) ∙ ap point_here is ∙ sym (starts_here j l t)
