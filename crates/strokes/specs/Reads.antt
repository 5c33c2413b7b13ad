-- What a tag of an open stroke draws, by the call's own reads: its transform, its cubic, its style, and the cubic of the tag behind it. Assumes nothing.
use Prim.Native.Nat.{ℕ, zero, suc, ◌+◌, ◌*◌, ◌%◌, ◌^◌, ◌<◌}
use Rattle.std.specs.Prelude.{◌≡◌, refl, Bool, true, false, List, eqb, length, Float, Ok}
use Rattle.std.proofs.Common.{sym, ◌∙◌}
use Rattle.std.proofs.Math.Path.{ap}
use native.Mathlib.Omega.{arith}
use Rattle.std.proofs.Math.Nat.{mod-eq_of_lt}
use Rattle.std.specs.Float.Ieee.{binary32, of_bits}
use Rattle.std.specs.Float.Ieee.Fits.{round-fits, add-fits}
use Rattle.refusals.specs.Refusals.{Read}
use Rattle.spiral.specs.Util.{sub_of, mix_of}
use Rattle.spiral.specs.Points.{FitsPoint}
use Rattle.spiral.specs.declared.util.Vec2.{Vec2}
use Rattle.drawing.specs.Sheet.{Event}
use Rattle.drawing.specs.Cubic.{point, start_tangent}
use Rattle.segment.specs.Segment.{neighbor_of, stroke_events, start_cap_events, shape_events}
use Rattle.segment.specs.declared.Neighbor.{Neighbor}
use Rattle.segment.specs.declared.Shape.TheVariants.{Stroke}
use Rattle.scene.specs.Tags.{bit}
use Rattle.scene.specs.Reading.{wide, marker, line_cubic, quad_cubic, origin, raised, cubic_of, floats_at, width_of}
use Rattle.scene.specs.declared.tags.PathTagData.{PathTagData}
use Rattle.flatten.specs.Tag.{tag_at, points_at, neighbor_at, stroke_by, stroke_at, shape_at, events_at, is_stroke}
use Rattle.flatten.specs.Found.{came, parts, points_found, head_parts}
use Rattle.flatten.specs.declared.call.Layout.{Layout}
use Rattle.flatten.specs.declared.tag.Head.{Head}
use Rattle.watertight.specs.Fill.{Call, tags, head_of, type_of, point_of, drawn_at}
use Rattle.watertight.specs.FillLaws.{points_fit, six_words_lem}
use Rattle.watertight.specs.Accepted.{Sound}
use Rattle.strokes.specs.Sides.{FitsAll}
use Rattle.strokes.specs.Stroke.{stroke_cubic, ends_subpath, Style, Stroked}

found_one : {A : Type 0} (a b : A) → ◌≡◌ {A = Read A} (Ok a) (Ok b) → a ≡ b
found_one a b h = cc

-- ---- the tag behind a segment, by its own points
neighbor_found : (layout : Layout) (scene prefixes : List ℕ) (ix : ℕ) (t : PathTagData) (n : Neighbor) → tag_at layout scene prefixes ix ≡ Ok t → neighbor_at layout scene prefixes ix ≡ Ok n
    → neighbor_of t.tag_byte (cubic_of (t.tag_byte % 4) (marker t.tag_byte true) scene (wide t.tag_byte) (layout.data_base + t.monoid.pathseg_offset)) ≡ n
unfolding neighbor_at
neighbor_found layout scene prefixes ix t n e h =
    let p = came (points_at layout scene true t) (λ ps. Ok (neighbor_of t.tag_byte ps)) n (rw e at h) in
    rw (points_found layout scene true t p.value p.first) (found_one _ n p.then)

-- ---- a segment that goes on, and a marker
module _ (layout : Layout) (scene prefixes : List ℕ) (ix : ℕ) (h : Head) (w : ℕ) (es : List Event)
    (segment : eqb (h.tag.tag_byte % 4) 0 ≡ false) (stroke : is_stroke h ≡ true)
    (width : width_of scene layout.style_base h.tag.monoid.style_ix ≡ Ok w)
    (is : events_at layout scene prefixes ix h ≡ Ok es) where
  goes_events : (t : PathTagData) → eqb (bit h.tag.tag_byte 0x04) 1 ≡ false → tag_at layout scene prefixes ((ix + 1) % 2 ^ 64) ≡ Ok t
      → stroke_events h.flags (floats_at scene (layout.transform_base + h.tag.monoid.trans_ix * 6))
      (cubic_of (h.tag.tag_byte % 4) (marker h.tag.tag_byte true) scene (wide h.tag.tag_byte) (layout.data_base + h.tag.monoid.pathseg_offset)) (of_bits binary32 w)
      (neighbor_of t.tag_byte (cubic_of (t.tag_byte % 4) (marker t.tag_byte true) scene (wide t.tag_byte) (layout.data_base + t.monoid.pathseg_offset)))
      ≡ es
  unfolding shape_at stroke_at stroke_by shape_events
  goes_events t end tag =
      let p = parts layout scene prefixes ix h es segment is in
      let n = came (neighbor_at layout scene prefixes ((ix + 1) % 2 ^ 64)) (λ m. Ok (Stroke (of_bits binary32 w) m)) p.shape (rw (stroke, width, end) at p.read) in
      rw (neighbor_found layout scene prefixes ((ix + 1) % 2 ^ 64) t n.value tag n.first) (rw (sym (found_one _ p.shape n.then), stroke) at p.drawn)

  cap_events_lem : eqb (bit h.tag.tag_byte 0x04) 1 ≡ true → eqb (h.tag.tag_byte % 4) 1 ≡ false
      → start_cap_events h.flags (floats_at scene (layout.transform_base + h.tag.monoid.trans_ix * 6))
      (cubic_of (h.tag.tag_byte % 4) (marker h.tag.tag_byte true) scene (wide h.tag.tag_byte) (layout.data_base + h.tag.monoid.pathseg_offset)) (of_bits binary32 w)
      ≡ es
  unfolding shape_at stroke_at stroke_by shape_events
  cap_events_lem end line-not =
      let p = parts layout scene prefixes ix h es segment is in
      rw (sym (found_one _ p.shape (rw (stroke, width, end, line-not) at p.read)), stroke) at p.drawn

-- ---- the cubic's points are f32
fits_raised : (k : ℕ) (mark : Bool) (p : ℕ → Vec2) → ((j : ℕ) → FitsPoint (p j)) → FitsAll (raised k mark p)
unfolding raised line_cubic quad_cubic mix_of
fits_raised zero mark p f = let o : FitsPoint origin = (round-fits binary32 false 0 1, round-fits binary32 false 0 1) in record { p0 = f 0; p1 = f 1; p2 = o; p3 = o }
fits_raised (suc zero) mark p f = record { p0 = f 0; p1 = (add-fits binary32 _ _, add-fits binary32 _ _); p2 = (add-fits binary32 _ _, add-fits binary32 _ _); p3 = f 1 }
fits_raised (suc (suc zero)) true p f = record { p0 = f 1; p1 = (add-fits binary32 _ _, add-fits binary32 _ _); p2 = (add-fits binary32 _ _, add-fits binary32 _ _); p3 = f 2 }
fits_raised (suc (suc zero)) false p f = record { p0 = f 0; p1 = (add-fits binary32 _ _, add-fits binary32 _ _); p2 = (add-fits binary32 _ _, add-fits binary32 _ _); p3 = f 2 }
fits_raised (suc (suc (suc k))) mark p f = record { p0 = f 0; p1 = f 1; p2 = f 2; p3 = f 3 }

pub cubic_fits : (c : Call) (i : ℕ) → FitsAll (stroke_cubic c i)
unfolding stroke_cubic cubic_of point_of
cubic_fits c i = fits_raised _ _ _ (λ (j : ℕ). points_fit c i j)

-- ---- in a call
module _ (c : Call) (s : Style) (z : List ℕ) (k : ℕ) (st : Stroked c s z k) (stroke : eqb (bit s.flags 0x80000000) 1 ≡ true) (sound : Sound c k) where
  is_stroke_lem : is_stroke (head_of c k) ≡ true
  is_stroke_lem = rw st.flags stroke

  carry : (flags : ℕ) (z' : List Float) (n : Neighbor) → (head_of c k).flags ≡ flags → floats_at c.scene (c.layout.transform_base + (head_of c k).tag.monoid.trans_ix * 6) ≡ z'
      → stroke_events (head_of c k).flags (floats_at c.scene (c.layout.transform_base + (head_of c k).tag.monoid.trans_ix * 6)) (stroke_cubic c k) (of_bits binary32 s.width) n ≡ drawn_at c k
      → stroke_events flags z' (stroke_cubic c k) (of_bits binary32 s.width) n ≡ drawn_at c k
  carry flags z' n e d h = rw (e, d) at h

  its_transform : floats_at c.scene (c.layout.transform_base + (head_of c k).tag.monoid.trans_ix * 6) ≡ floats_at z 0
  its_transform = six_words_lem c.scene (c.layout.transform_base + (head_of c k).tag.monoid.trans_ix * 6) ∙ ap (λ (w : List ℕ). floats_at w 0) st.transform

  -- a segment, with its neighbour, the tag behind it
  pub stroke_drawn : c.layout.n_wg < 2 ^ 32 → suc k < tags c → ends_subpath c k ≡ false → Sound c (suc k)
      → stroke_events s.flags (floats_at z 0) (stroke_cubic c k) (of_bits binary32 s.width) (neighbor_of (head_of c (suc k)).tag.tag_byte (stroke_cubic c (suc k))) ≡ drawn_at c k
  unfolding stroke_cubic
  stroke_drawn u l end behind =
      let sum : k + 1 ≡ suc k = omega arith in
      let ix : (k + 1) % 2 ^ 64 ≡ suc k = mod-eq_of_lt (omega arith) ∙ sum in
      let tag : tag_at c.layout c.scene c.prefixes ((k + 1) % 2 ^ 64) ≡ Ok (head_of c (suc k)).tag =
      ap (tag_at c.layout c.scene c.prefixes) ix ∙ (head_parts c.layout c.scene c.prefixes (length c.boxes) (suc k) (head_of c (suc k)) behind.head).tag in
      carry s.flags (floats_at z 0) _ st.flags its_transform
      (goes_events c.layout c.scene c.prefixes k (head_of c k) s.width (drawn_at c k) st.segment is_stroke_lem st.width sound.events (head_of c (suc k)).tag end tag)

  carry_cap : (flags : ℕ) (z' : List Float) → (head_of c k).flags ≡ flags → floats_at c.scene (c.layout.transform_base + (head_of c k).tag.monoid.trans_ix * 6) ≡ z'
      → start_cap_events (head_of c k).flags (floats_at c.scene (c.layout.transform_base + (head_of c k).tag.monoid.trans_ix * 6)) (stroke_cubic c k) (of_bits binary32 s.width) ≡ drawn_at c k
      → start_cap_events flags z' (stroke_cubic c k) (of_bits binary32 s.width) ≡ drawn_at c k
  carry_cap flags z' e d h = rw (e, d) at h

  -- a marker
  pub cap_drawn : ends_subpath c k ≡ true → eqb (type_of c k) 1 ≡ false → start_cap_events s.flags (floats_at z 0) (stroke_cubic c k) (of_bits binary32 s.width) ≡ drawn_at c k
  unfolding stroke_cubic
  cap_drawn end line-not =
      carry_cap s.flags (floats_at z 0) st.flags its_transform
      (cap_events_lem c.layout c.scene c.prefixes k (head_of c k) s.width (drawn_at c k) st.segment is_stroke_lem st.width sound.events end line-not)

-- ---- what a segment sees of the tag behind it

-- one that goes on is joined to
pub joins_on : (byte : ℕ) (ps : List Vec2) → eqb (bit byte 0x04) 1 ≡ false → neighbor_of byte ps ≡ record { do_join = true; tangent = start_tangent ps }
unfolding neighbor_of
joins_on byte ps h = rw h refl

-- a marker is not
pub caps_off : (byte : ℕ) (ps : List Vec2) → eqb (bit byte 0x04) 1 ≡ true → eqb (byte % 4) 1 ≡ false → neighbor_of byte ps ≡ record { do_join = false; tangent = sub_of (point ps 3) (point ps 0) }
unfolding neighbor_of
caps_off byte ps h k = rw (h, k) refl
