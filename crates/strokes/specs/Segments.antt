-- What one tag of a stroke draws: a segment with a join takes each side on to the next segment, a segment with an end cap leads from one side to the other, and the
-- start cap leads back. Assumes nothing.
use Rattle.std.specs.Prelude.{ℕ, ◌≡◌, true, false, List, ◌++◌, Float}
use Rattle.std.proofs.Common.{subst, append_assoc}
use Rattle.std.specs.Int.Bits.{bit_and}
use Rattle.std.specs.Float.Ieee.{lt}
use Rattle.laws.specs.Binary32.{whole}
use Rattle.spiral.specs.Util.{add_of, sub_of, mul_of, normalize_of, apply_of}
use Rattle.spiral.specs.declared.util.Vec2.{Vec2}
use Rattle.drawing.specs.Cap.{cap_events}
use Rattle.drawing.specs.Join.{join_events, corners_of}
use Rattle.drawing.specs.Cubic.{point, start_tangent}
use Rattle.segment.specs.Segment.{quarter, tangents_of, edges_of, sides_events, end_events, stroke_events, start_cap_events}
use Rattle.watertight.specs.Balance.{AllLines}
use Rattle.strokes.specs.Leads.{Leads, Pair, all_split, further, closed_by}
use Rattle.strokes.specs.Parts.{cap_leads, undrawn, join_pair}
use Rattle.strokes.specs.Sides.{FitsAll, normal_of, edges, start_normal, sides_pair}
use Rattle.strokes.specs.Stroke.{half_width, join_corners}

module _ (flags : ℕ) (z : List Float) (ps : List Vec2) (width : Float) (f : FitsAll ps) (half : lt (whole 0) (half_width width) ≡ true) (next : Vec2) where
  -- a segment and the join behind it
  joined : AllLines (stroke_events flags z ps width (record { do_join = true; tangent = next }))
      → Pair (apply_of z (add_of (point ps 0) (edges ps next (half_width width)).n_start)) (apply_of z (add_of (point ps 3) (normal_of next (half_width width))))
      (apply_of z (sub_of (point ps 3) (normal_of next (half_width width)))) (apply_of z (sub_of (point ps 0) (edges ps next (half_width width)).n_start))
      (stroke_events flags z ps width (record { do_join = true; tangent = next }) ++ undrawn flags z (join_corners ps width next))
  unfolding stroke_events end_events edges_of tangents_of join_corners half_width
  joined l =
      let o = half_width width in
      let t = tangents_of ps next in
      let d = edges_of t o in
      let xs = sides_events z ps o d in
      let ys = join_events flags z (point ps 3) t.prev t.next d.n_prev d.n_next in
      let s = all_split xs ys l in
      let us = undrawn flags z (corners_of (point ps 3) d.n_prev d.n_next) in
      rw (append_assoc xs ys us)
      (further _ _ _ _ xs (ys ++ us) _ _ (sides_pair z ps next o f half s.0) (join_pair flags z (point ps 3) t.prev t.next d.n_prev d.n_next s.1))

  -- the last segment and the cap behind it
  capped : AllLines (stroke_events flags z ps width (record { do_join = false; tangent = next }))
      → Leads (apply_of z (add_of (point ps 0) (edges ps next (half_width width)).n_start)) (apply_of z (sub_of (point ps 0) (edges ps next (half_width width)).n_start))
      (stroke_events flags z ps width (record { do_join = false; tangent = next }))
  unfolding stroke_events end_events half_width
  capped l =
      let o = half_width width in
      let d = edges_of (tangents_of ps next) o in
      let xs = sides_events z ps o d in
      let a = add_of (point ps 3) d.n_prev in
      let b = sub_of (point ps 3) d.n_prev in
      let ys = cap_events (bit_and flags 0x03000000) z (point ps 3) a b d.offset_tangent in
      closed_by _ _ _ _ xs ys (sides_pair z ps next o f half (all_split xs ys l).0) (cap_leads (bit_and flags 0x03000000) z (point ps 3) a b d.offset_tangent)

  -- both, by the normal of the segment's own start
  pub joined_on : AllLines (stroke_events flags z ps width (record { do_join = true; tangent = next }))
      → Pair (apply_of z (add_of (point ps 0) (normal_of (start_tangent ps) (half_width width)))) (apply_of z (add_of (point ps 3) (normal_of next (half_width width))))
      (apply_of z (sub_of (point ps 3) (normal_of next (half_width width)))) (apply_of z (sub_of (point ps 0) (normal_of (start_tangent ps) (half_width width))))
      (stroke_events flags z ps width (record { do_join = true; tangent = next }) ++ undrawn flags z (join_corners ps width next))
  joined_on l =
      subst (λ (n : Vec2). Pair (apply_of z (add_of (point ps 0) n)) (apply_of z (add_of (point ps 3) (normal_of next (half_width width)))) (apply_of z (sub_of (point ps 3) (normal_of next (half_width width)))) (apply_of z (sub_of (point ps 0) n)) (stroke_events flags z ps width (record { do_join = true; tangent = next }) ++ undrawn flags z (join_corners ps width next)))
      (start_normal ps next (half_width width)) (joined l)

  pub capped_off : AllLines (stroke_events flags z ps width (record { do_join = false; tangent = next }))
      → Leads (apply_of z (add_of (point ps 0) (normal_of (start_tangent ps) (half_width width)))) (apply_of z (sub_of (point ps 0) (normal_of (start_tangent ps) (half_width width))))
      (stroke_events flags z ps width (record { do_join = false; tangent = next }))
  capped_off l =
      subst (λ (n : Vec2). Leads (apply_of z (add_of (point ps 0) n)) (apply_of z (sub_of (point ps 0) n)) (stroke_events flags z ps width (record { do_join = false; tangent = next })))
      (start_normal ps next (half_width width)) (capped l)

-- the start cap, from side - to side +
pub start_cap : (flags : ℕ) (z : List Float) (ps : List Vec2) (width : Float)
    → Leads (apply_of z (sub_of (point ps 0) (quarter (mul_of (normalize_of (sub_of (point ps 3) (point ps 0))) (half_width width)))))
    (apply_of z (add_of (point ps 0) (quarter (mul_of (normalize_of (sub_of (point ps 3) (point ps 0))) (half_width width)))))
    (start_cap_events flags z ps width)
unfolding start_cap_events half_width
start_cap flags z ps width = cap_leads _ z (point ps 0) _ _ _
