-- What a filled segment draws is one chain, from its first point to its last. Assumes nothing.
use Rattle.std.specs.Prelude.{ℕ, zero, suc, ◌+◌, ◌*◌, ◌%◌, ◌<◌, ◌≤◌, ◌≡◌, refl, true, eqb, get_or, take, drop, Float, Ok}
use Rattle.std.proofs.Common.{ap, ◌∙◌, arith, mod-lt, lit<, get_or-take, get_or-drop}
use Rattle.std.proofs.Math.Path.{subst}
use Rattle.std.proofs.Math.Bool.{false}
use mathlib.Core.List.{List}
use Rattle.std.proofs.Math.ListN.{length}
use Rattle.std.specs.Float.Ieee.{round, eq}
use Rattle.laws.specs.Binary32.{whole}
use Rattle.refusals.specs.Refusals.{Read}
use Rattle.spiral.specs.Points.{FitsPoint}
use Rattle.spiral.specs.declared.util.Vec2.{Vec2}
use Rattle.drawing.specs.Sheet.{Event}
use Rattle.drawing.specs.Cubic.{point}
use Rattle.curve.specs.Chain.{Chain, written, fill_chain}
use Rattle.curve.specs.Bounds.{lines_at_most}
use Rattle.segment.specs.Segment.{fill_events, shape_events}
use Rattle.scene.specs.Reading.{wide, point_words, point_at, line_cubic, quad_cubic, raised, cubic_of, floats_at}
use Rattle.scene.specs.Points.{point_fits}
use Rattle.segment.specs.declared.Shape.{Shape}
use Rattle.segment.specs.declared.Shape.TheVariants.{Fill}
use Rattle.flatten.specs.Tag.{events_at, shape_at, is_stroke}
use Rattle.flatten.specs.Found.{parts}
use Rattle.flatten.specs.declared.call.Layout.{Layout}
use Rattle.flatten.specs.declared.tag.Head.{Head}
use Rattle.watertight.specs.Fill.{Call, read_events, head_of, type_of, point_of, first_of, last_of, transform_words, written_by}

-- ---- the cubic of a segment starts at its first point and ends at its last
ends_of : (k : ℕ) (p : ℕ → Vec2) → eqb k 0 ≡ false → k < 4 → (point (raised k false p) 0 ≡ p 0) × (point (raised k false p) 3 ≡ p k)
unfolding raised line_cubic quad_cubic
ends_of zero p h l = let z : ◌≡◌ {A = ℕ} 0 1 = cc in absurd (omega arith)
ends_of (suc zero) p h l = (refl, refl)
ends_of (suc (suc zero)) p h l = (refl, refl)
ends_of (suc (suc (suc zero))) p h l = (refl, refl)
ends_of (suc (suc (suc (suc k)))) p h l = absurd (omega arith)

-- ---- the six numbers of a transform are those of its six words
word_of : (ws : List ℕ) (at k : ℕ) → k < 6 → get_or (take 6 (drop at ws)) k 0 ≡ get_or ws (at + k) 0
word_of ws at k h = get_or-take 6 (drop at ws) k 0 h ∙ get_or-drop at ws k 0

here : (ws : List ℕ) (at : ℕ) → get_or ws (at + 0) 0 ≡ get_or ws at 0
here ws at = let e : at + 0 ≡ at = omega arith in ap (λ (k : ℕ). get_or ws k 0) e

pub six_words_lem : (ws : List ℕ) (at : ℕ) → floats_at ws at ≡ floats_at (take 6 (drop at ws)) 0
unfolding floats_at
six_words_lem ws at =
    cc (here ws at, word_of ws at 0 (lit< tt), word_of ws at 1 (lit< tt), word_of ws at 2 (lit< tt), word_of ws at 3 (lit< tt), word_of ws at 4 (lit< tt), word_of ws at 5 (lit< tt))

-- ---- what a filled segment draws
is_fill : (layout : Layout) (scene prefixes : List ℕ) (ix : ℕ) (h : Head) (s : Shape) → is_stroke h ≡ false → shape_at (is_stroke h) layout scene prefixes ix h ≡ Ok s → s ≡ Fill
unfolding shape_at
is_fill layout scene prefixes ix h s f e = filled (rw f at e)
  where
    filled : ◌≡◌ {A = Read Shape} (Ok Fill) (Ok s) → s ≡ Fill
    filled k = cc

pub fill_events_lem : (layout : Layout) (scene prefixes : List ℕ) (ix : ℕ) (h : Head) (es : List Event)
    → eqb (h.tag.tag_byte % 4) 0 ≡ false → is_stroke h ≡ false → events_at layout scene prefixes ix h ≡ Ok es
    → fill_events (floats_at scene (layout.transform_base + h.tag.monoid.trans_ix * 6))
    (cubic_of (h.tag.tag_byte % 4) false scene (wide h.tag.tag_byte) (layout.data_base + h.tag.monoid.pathseg_offset))
    ≡ es
unfolding shape_events
fill_events_lem layout scene prefixes ix h es k f e =
    let p = parts layout scene prefixes ix h es k e in
    rw (is_fill layout scene prefixes ix h p.shape f p.read, f) at p.drawn

zero_zero : eq (whole 0) (whole 0) ≡ true
unfolding eq round
zero_zero = refl

carry : (z z' : List Float) (p p' q q' : Vec2) (es es' : List Event) → z ≡ z' → p ≡ p' → q ≡ q' → es ≡ es'
    → Chain false (written z p) (written z q) es → Chain false (written z' p') (written z' q') es'
carry z z' p p' q q' es es' a b c d h = rw (a, b, c, d) at h

-- a call's tag i, and what it draws
module _ (c : Call) (i : ℕ) (es : List Event) (segment : eqb (type_of c i) 0 ≡ false) (no_stroke : is_stroke (head_of c i) ≡ false) (is : read_events c i (head_of c i) ≡ Ok es) where
  pub fill_few : length es ≤ 6553600
  unfolding fill_events
  fill_few = subst (λ (es : List Event). length es ≤ 6553600) (fill_events_lem c.layout c.scene c.prefixes i _ es segment no_stroke is) (lines_at_most _ _ _ _ _)

  pub fill_chain_of : Chain false (written_by (transform_words c i) (first_of c i)) (written_by (transform_words c i) (last_of c i)) es
  unfolding fill_events cubic_of point_of
  fill_chain_of =
      let scene = c.scene in
      let h = head_of c i in
      let w = wide h.tag.tag_byte in
      let at = c.layout.data_base + h.tag.monoid.pathseg_offset in
      let from = c.layout.transform_base + h.tag.monoid.trans_ix * 6 in
      let k = h.tag.tag_byte % 4 in
      let ps = cubic_of k false scene w at in
      let e = ends_of k (λ j. point_at w scene (at + j * point_words w)) segment (mod-lt _ (lit< tt)) in
      carry (floats_at scene from) _ (point ps 0) _ (point ps 3) _ _ es (six_words_lem scene from) e.0 e.1 (fill_events_lem c.layout scene c.prefixes i h es segment no_stroke is)
      (fill_chain ps (floats_at scene from) (whole 0) (point ps 0) (point ps 3) zero_zero)

pub points_fit : (c : Call) (i k : ℕ) → FitsPoint (point_of c i k)
unfolding point_of
points_fit c i k = point_fits _ c.scene _
