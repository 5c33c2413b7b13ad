-- What a tag that was read says: its head was, and of a segment its transform and its points. Assumes nothing.
use Rattle.std.specs.Prelude.{ℕ, ◌+◌, ◌*◌, ◌≤◌, ◌≡◌, Bool, true, false, ◌&&◌, List, length, Float, is_ok, Ok}
use Rattle.std.proofs.Common.{sym, ap, ◌∙◌, arith, leb-true}
use Rattle.refusals.specs.Laws.{found_where}
use Rattle.spiral.specs.declared.util.Vec2.{Vec2}
use Rattle.scene.specs.Reading.{segment_of, transform_of}
use Rattle.flatten.specs.Tag.{◌>>=◌, is_stroke, points_at, shape_at}
use Rattle.flatten.specs.Found.{Came, came}
use Rattle.flatten.specs.declared.tag.Head.{Head}
use Rattle.profile.specs.Reads.{Given, read_head, no_segment, read_transform, rest_by, read_at}
use Rattle.profile.specs.Rules.{head_or, head_of}
use Rattle.profile.specs.Trail.{InReach}

-- what is found behind the head is the head
rest_is : (t : Bool) (g : Given) (i : ℕ) (h k : Head) → rest_by t g i h ≡ Ok k → h ≡ k
unfolding rest_by
rest_is true g i h k e = cc
rest_is false g i h k e =
    let a = came (read_transform g h) (λ z. points_at g.layout g.scene (is_stroke h) h.tag >>= λ ps. shape_at (is_stroke h) g.layout g.scene g.prefixes i h >>= λ s. Ok h) k e in
    let b = came (points_at g.layout g.scene (is_stroke h) h.tag) (λ ps. shape_at (is_stroke h) g.layout g.scene g.prefixes i h >>= λ s. Ok h) k a.then in
    let d = came (shape_at (is_stroke h) g.layout g.scene g.prefixes i h) (λ s. Ok h) k b.then in
    cc d.then

module _ (g : Given) (i : ℕ) (h : Head) (e : read_at g i ≡ Ok h) where
  its_parts : Came (read_head g i) (λ h. rest_by (no_segment h) g i h) h
  unfolding read_at
  its_parts = came (read_head g i) (λ h. rest_by (no_segment h) g i h) h e

  its_head : its_parts.value ≡ h
  its_head = rest_is (no_segment its_parts.value) g i its_parts.value h its_parts.then

  pub head_read_lem : read_head g i ≡ Ok h
  head_read_lem = its_parts.first ∙ ap Ok its_head

  pub read_head_is : h ≡ head_of g i
  unfolding head_of head_or
  read_head_is = rw head_read_lem

  pub rest_read : rest_by (no_segment h) g i h ≡ Ok h
  rest_read = ap (λ (k : Head). rest_by (no_segment k) g i k) (sym its_head) ∙ its_parts.then

-- ---- a segment

both : (a b : Bool) → a && b ≡ true → b ≡ true
both true b e = e
both false b e = let z : ◌≡◌ {A = ℕ} 0 1 = cc in absurd (omega arith)

transform_inside : (scene : List ℕ) (base ix : ℕ) (z : List Float) → transform_of scene base ix ≡ Ok z → base + ix * 6 + 6 ≤ length scene
unfolding transform_of
transform_inside scene base ix z e = leb-true (base + ix * 6 + 6) (length scene) (both _ _ (found_where _ _ _ _ e).0)

-- whether its points are found does not depend on how they are taken
any_stroke : (byte offset : ℕ) (s t : Bool) (scene : List ℕ) (base : ℕ) (ps : List Vec2) → segment_of byte s offset scene base ≡ Ok ps → is_ok (segment_of byte t offset scene base) ≡ true
unfolding segment_of
any_stroke byte offset s t scene base ps e = let there = (found_where _ _ _ _ e).0 in rw there

pub in_reach : (g : Given) (i : ℕ) (h : Head) → read_at g i ≡ Ok h → no_segment h ≡ false → InReach g.layout g.scene h
unfolding rest_by
in_reach g i h e s =
    let r = rw s at (rest_read g i h e) in
    let a = came (read_transform g h) (λ z. points_at g.layout g.scene (is_stroke h) h.tag >>= λ ps. shape_at (is_stroke h) g.layout g.scene g.prefixes i h >>= λ s. Ok h) h r in
    let b = came (points_at g.layout g.scene (is_stroke h) h.tag) (λ ps. shape_at (is_stroke h) g.layout g.scene g.prefixes i h >>= λ s. Ok h) h a.then in
    record {
      segment = s;
      words = transform_inside g.scene g.layout.transform_base h.tag.monoid.trans_ix a.value a.first;
      points = any_stroke h.tag.tag_byte h.tag.monoid.pathseg_offset (is_stroke h) false g.scene g.layout.data_base b.value b.first;
    }
