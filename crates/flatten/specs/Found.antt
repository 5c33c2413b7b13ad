-- Where reads in a row were found, each of them was, and with what: the reads of a tag's head, and of what it draws. Assumes nothing.
use Rattle.std.specs.Prelude.{◌≡◌, ℕ, ◌+◌, ◌*◌, ◌%◌, Bool, true, false, cond, ◌&&◌, List, ◌==◌, nat_le, refl, Float, Ok, Err}
use Rattle.std.proofs.Common.{ap, ◌∙◌, arith}
use Rattle.std.proofs.Math.Path.{subst}
use Rattle.refusals.specs.Refusals.{Read}
use Rattle.refusals.specs.Laws.{found_where}
use Rattle.refusals.specs.declared.Refusal.TheVariants.{NoBox, BadTransform}
use Rattle.spiral.specs.declared.util.Vec2.{Vec2}
use Rattle.drawing.specs.Sheet.{Event}
use Rattle.segment.specs.Segment.{shape_events}
use Rattle.segment.specs.declared.Shape.{Shape}
use Rattle.scene.specs.Reading.{wide, marker, cubic_of, segment_of, floats_at, transform_of, all_finite, flags_of}
use Rattle.scene.specs.declared.tags.PathTagData.{PathTagData}
use Rattle.flatten.specs.Tag.{◌>>=◌, tag_at, is_path, boxed, head_at, is_stroke, points_at, transform_at, finite_only, shape_at, events_by, events_at}
use Rattle.flatten.specs.declared.call.Layout.{Layout}
use Rattle.flatten.specs.declared.tag.Head.{Head}

-- ---- two reads, one after the other
pub record Came {A B : Type 0} (r : Read A) (f : A → Read B) (b : B) : Type 0 where
  pub value : A
  pub first : r ≡ Ok value
  pub then : f value ≡ Ok b

pub came : {A B : Type 0} (r : Read A) (f : A → Read B) (b : B) → (r >>= f) ≡ Ok b → Came r f b
came (Ok a) f b h = record { value = a; first = refl; then = h }
came (Err why) f b h = let z : ◌≡◌ {A = ℕ} 0 1 = cc in absurd (omega arith)

-- a value that was found is given on
pub given_on : {A B : Type 0} (r : Read A) (f : A → Read B) (a : A) → r ≡ Ok a → (r >>= f) ≡ f a
given_on {A = A} r f a e = ap (λ (x : Read A). x >>= f) e

-- ---- a head

-- its tag was read, the flags of its style, and a path tag has its box
pub record HeadParts (layout : Layout) (scene prefixes : List ℕ) (n ix : ℕ) (h : Head) : Type 0 where
  pub tag : tag_at layout scene prefixes ix ≡ Ok h.tag
  pub flags : flags_of scene layout.style_base h.tag.monoid.style_ix ≡ Ok h.flags
  pub box : is_path h && nat_le n h.tag.monoid.path_ix ≡ false

boxed_says : (n : ℕ) (k h : Head) → boxed n k ≡ Ok h → (k ≡ h) × (is_path k && nat_le n k.tag.monoid.path_ix ≡ false)
unfolding boxed
boxed_says n k h = go (is_path k && nat_le n k.tag.monoid.path_ix)
  where
    go : (b : Bool) → cond b (Err NoBox) (Ok k) ≡ Ok h → (k ≡ h) × (b ≡ false)
    go true e = let z : ◌≡◌ {A = ℕ} 0 1 = cc in absurd (omega arith)
    go false e = (cc, refl)

module _ (layout : Layout) (scene prefixes : List ℕ) (n ix : ℕ) (h : Head) where
  pub head_parts : head_at layout scene prefixes n ix ≡ Ok h → HeadParts layout scene prefixes n ix h
  unfolding head_at
  head_parts e =
      let a = came (tag_at layout scene prefixes ix) (λ t. flags_of scene layout.style_base t.monoid.style_ix >>= λ flags. boxed n (record { tag = t; flags = flags })) h e in
      let b = came (flags_of scene layout.style_base a.value.monoid.style_ix) (λ flags. boxed n (record { tag = a.value; flags = flags })) h a.then in
      let k = boxed_says n (record { tag = a.value; flags = b.value }) h b.then in
      subst (HeadParts layout scene prefixes n ix) k.0 (record { tag = a.first; flags = b.first; box = k.1 })

  -- and where they were, the head is
  pub head_whole : HeadParts layout scene prefixes n ix h → head_at layout scene prefixes n ix ≡ Ok h
  unfolding head_at boxed
  head_whole p = rw (p.tag, p.flags, p.box)

-- ---- what is inside, where it was found
transform_found : (scene : List ℕ) (base ix : ℕ) (z : List Float) → transform_of scene base ix ≡ Ok z → floats_at scene (base + ix * 6) ≡ z
unfolding transform_of
transform_found scene base ix z h = (found_where _ _ _ _ h).1

pub points_found : (layout : Layout) (scene : List ℕ) (stroke : Bool) (t : PathTagData) (ps : List Vec2) → points_at layout scene stroke t ≡ Ok ps
    → cubic_of (t.tag_byte % 4) (marker t.tag_byte stroke) scene (wide t.tag_byte) (layout.data_base + t.monoid.pathseg_offset) ≡ ps
unfolding segment_of
points_found layout scene stroke t ps h = (found_where _ _ _ _ h).1

-- ---- a tag with a segment

-- its events, where they were read: its transform is finite, its shape was read, and what is drawn is that shape's
pub record Parts (layout : Layout) (scene prefixes : List ℕ) (ix : ℕ) (h : Head) (es : List Event) : Type 0 where
  pub shape : Shape
  pub finite : all_finite (floats_at scene (layout.transform_base + h.tag.monoid.trans_ix * 6)) ≡ true
  pub read : shape_at (is_stroke h) layout scene prefixes ix h ≡ Ok shape
  pub drawn :
      shape_events shape h.flags (floats_at scene (layout.transform_base + h.tag.monoid.trans_ix * 6))
      (cubic_of (h.tag.tag_byte % 4) (marker h.tag.tag_byte (is_stroke h)) scene (wide h.tag.tag_byte) (layout.data_base + h.tag.monoid.pathseg_offset)) ≡ es

events_parts : (layout : Layout) (scene prefixes : List ℕ) (ix : ℕ) (h : Head) (es : List Event) → events_by false layout scene prefixes ix h ≡ Ok es → Parts layout scene prefixes ix h es
unfolding events_by finite_only
events_parts layout scene prefixes ix h es e =
    let a = came (transform_at layout scene h) (λ z. points_at layout scene (is_stroke h) h.tag >>= λ ps. shape_at (is_stroke h) layout scene prefixes ix h >>= λ s. Ok (shape_events s h.flags z ps)) es e in
    let b = came (transform_of scene layout.transform_base h.tag.monoid.trans_ix) finite_only a.value a.first in
    let f = found_where (all_finite b.value) b.value a.value BadTransform b.then in
    let z = transform_found scene layout.transform_base h.tag.monoid.trans_ix b.value b.first in
    let p = came (points_at layout scene (is_stroke h) h.tag) (λ ps. shape_at (is_stroke h) layout scene prefixes ix h >>= λ s. Ok (shape_events s h.flags a.value ps)) es a.then in
    let s = came (shape_at (is_stroke h) layout scene prefixes ix h) (λ s. Ok (shape_events s h.flags a.value p.value)) es p.then in
    record {
      shape = s.value;
      finite = ap all_finite z ∙ f.0;
      read = s.first;
      drawn = rw (z, f.1, points_found layout scene (is_stroke h) h.tag p.value p.first) (injected _ es s.then);
    }
  where
    injected : (xs ys : List Event) → ◌≡◌ {A = Read (List Event)} (Ok xs) (Ok ys) → xs ≡ ys
    injected xs ys k = cc

pub parts : (layout : Layout) (scene prefixes : List ℕ) (ix : ℕ) (h : Head) (es : List Event) → (h.tag.tag_byte % 4 == 0) ≡ false → events_at layout scene prefixes ix h ≡ Ok es → Parts layout scene prefixes ix h es
unfolding events_at
parts layout scene prefixes ix h es k e = events_parts layout scene prefixes ix h es (rw k at e)
