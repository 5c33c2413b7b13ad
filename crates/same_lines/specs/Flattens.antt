-- A moved sheet flattens as the old one did: the same answer, boxes and lines. Assumes nothing.
use Prim.Native.Nat.{ℕ, suc, ◌+◌, ◌*◌, ◌/◌, ◌%◌, ◌^◌, ◌<◌, ◌≤◌}
use Rattle.std.specs.Prelude.{◌≡◌, ◌⊎◌, Bool, ◌||◌, eqb, ltb, length, Ok, None}
use Rattle.std.proofs.Math.Path.{refl, ap}
use Rattle.std.proofs.Common.{sym, ◌∙◌, subst, inl, inr, mod-eq_of_lt, ne_eqb, le-ltb, ltb-true}
use Rattle.std.proofs.Math.Bool.{true, false}
use mathlib.Core.List.{List}
use native.Mathlib.Omega.{arith}
use Rattle.std.proofs.Math.ListN.{length-set}
use Rattle.std.specs.Float.Ieee.{Float, binary32, of_bits}
use Rattle.std.proofs.lemmas.Bool.{eqb-false}
use Rattle.spiral.specs.declared.util.Vec2.{Vec2}
use Rattle.drawing.specs.Sheet.{Event}
use Rattle.segment.specs.Segment.{neighbor_of, shape_events}
use Rattle.segment.specs.declared.Neighbor.{Neighbor}
use Rattle.segment.specs.declared.Shape.{Shape}
use Rattle.segment.specs.declared.Shape.TheVariants.{Stroke}
use Rattle.refusals.specs.Refusals.{Read}
use Rattle.scene.specs.Tags.{bit, tag_data}
use Rattle.scene.specs.FreshLaws.{sums_at, fresh_tag, roomy_tag}
use Rattle.scene.specs.Reading.{width_of}
use Rattle.scene.specs.declared.tags.PathTagData.{PathTagData}
use Rattle.flatten.specs.Tag.{◌>>=◌, tag_at, is_stroke, head_at, points_at, transform_at, neighbor_at, stroke_by, stroke_at, shape_at, events_by, events_at}
use Rattle.flatten.specs.Found.{came, given_on, HeadParts, head_parts, head_whole}
use Rattle.flatten.specs.Step.{Stepped, step_of}
use Rattle.flatten.specs.Boxes.{changed_at}
use Rattle.flatten.specs.Call.{first_turn, start_at, start_of, State, taken, after, Outcome, call_of}
use Rattle.flatten.specs.CallLaws.{carried, bad_base}
use Rattle.flatten.specs.SameEvents.{SameHead, SameAt, heads, same_events}
use Rattle.flatten.specs.declared.boxes.PathBox.{PathBox}
use Rattle.flatten.specs.declared.call.Told.{Told}
use Rattle.flatten.specs.declared.call.Turn.{Turn}
use Rattle.flatten.specs.declared.tag.Head.{Head}
use Rattle.watertight.specs.Fill.{Call, outcome, Accepted, tags, read_head, read_events, head_of, drawn_at, type_of}
use Rattle.watertight.specs.Steps.{Goes, Halts, turns}
use Rattle.watertight.specs.Accepted.{done}
use Rattle.sheets.specs.Moving.{counts}
use Rattle.same_lines.specs.Conditions.{words_of, byte_of, Scanned, Roomy, counted, Segment, Stroked, Few, ReadsCounted, Followed, Moves}
use Rattle.same_lines.specs.Points.{MovedWords, points_same}
use Rattle.same_lines.specs.Pairs.{Paired, tag_pair, counted_pair}

-- ---- tag by tag

neighbor_same : (b b' : ℕ) (ps : List Vec2) → b' % 4 ≡ b % 4 → b' / 4 % 2 ≡ b / 4 % 2 → neighbor_of b' ps ≡ neighbor_of b ps
unfolding neighbor_of
neighbor_same b b' ps kind end = rw (kind, end)

module _ (old new : Call) (a : Accepted old) (f : Scanned old) (r : Roomy new) (few : Few old) (reads : ReadsCounted old) (followed : Followed old) (m : Moves old new) where
  abbrev new_tag_at : ℕ → PathTagData
  new_tag_at i = tag_data (byte_of new i) (sums_at (words_of new) i)

  abbrev new_head : ℕ → Head
  new_head i = record { tag = new_tag_at i; flags = (head_of old i).flags }

  old_parts : (i : ℕ) → i < tags old → HeadParts old.layout old.scene old.prefixes (length old.boxes) i (head_of old i)
  old_parts i h = head_parts old.layout old.scene old.prefixes (length old.boxes) i (head_of old i) ((done old a).sound i h).head

  pair : (i : ℕ) → i < tags old → Paired (head_of old i).tag (new_tag_at i)
  pair i h =
      let is = fresh_tag old.scene old.layout.tag_base old.prefixes f i (head_of old i).tag (old_parts i h).tag in
      subst (λ (t : PathTagData). Paired t (new_tag_at i)) (sym is.1) (tag_pair old new m.tags few i h)

  new_tag_lem : (i : ℕ) → i < tags old → tag_at new.layout new.scene new.prefixes i ≡ Ok (new_tag_at i)
  new_tag_lem i h =
      let w = m.lent.workgroups in
      roomy_tag new.scene new.layout.tag_base new.prefixes r.fresh i (omega (arith, w, m.tags.there)) (omega (arith, w, r.room))

  new_head_lem : (i : ℕ) → i < tags old → read_head new i ≡ Ok (new_head i)
  new_head_lem i h =
      let p = pair i h in
      let o = old_parts i h in
      head_whole new.layout new.scene new.prefixes (length new.boxes) i (new_head i) (record {
        tag = new_tag_lem i h;
        flags = rw (p.style, m.styles.flags i h) o.flags;
        box = rw (p.byte.path, p.path, m.lent.boxes) o.box;
      })

  same_head : (i : ℕ) → i < tags old → SameHead (head_of old i) (new_head i)
  same_head i h =
      let p = pair i h in
      record { path = sym p.path; transform = sym p.transform; flags = refl; mark = ap (λ (x : ℕ). eqb x 1) (sym p.byte.path) }

  words_moved : MovedWords old.scene old.layout.data_base new.scene new.layout.data_base (counted old)
  words_moved = record { there = m.points.there; x = m.points.x; y = m.points.y }

  turned : (i : ℕ) → Segment old i → eqb (counts (head_of old i).tag.tag_byte) 0 ≡ false
  turned i s = ne_eqb (counts (head_of old i).tag.tag_byte) 0 (λ e. eqb-false (type_of old i) 0 s.drawing (omega arith))

  new_points_lem : (i : ℕ) → Segment old i → (stroke : Bool) (ps : List Vec2)
      → points_at old.layout old.scene stroke (head_of old i).tag ≡ Ok ps → points_at new.layout new.scene stroke (new_tag_at i) ≡ Ok ps
  new_points_lem i s stroke ps e =
      let p = pair i s.in_call in
      let t = p.byte.turned (turned i s) in
      points_same words_moved (head_of old i).tag.tag_byte (new_tag_at i).tag_byte stroke (head_of old i).tag.monoid.pathseg_offset (new_tag_at i).monoid.pathseg_offset ps
      p.byte.kind p.byte.end t.0 t.1 p.offset (reads i s) (counted_pair old new m.tags few) e

  new_neighbor : (i : ℕ) → Segment old i → (n : Neighbor)
      → neighbor_at old.layout old.scene old.prefixes i ≡ Ok n → neighbor_at new.layout new.scene new.prefixes i ≡ Ok n
  unfolding neighbor_at
  new_neighbor i s n e =
      let b = came (tag_at old.layout old.scene old.prefixes i) (λ t. points_at old.layout old.scene true t >>= λ ps. Ok (neighbor_of t.tag_byte ps)) n e in
      let same : b.value ≡ (head_of old i).tag = let k = b.first in let l = (old_parts i s.in_call).tag in cc in
      let e' : (points_at old.layout old.scene true (head_of old i).tag >>= λ ps. Ok (neighbor_of (head_of old i).tag.tag_byte ps)) ≡ Ok n = rw same at b.then in
      let d = came (points_at old.layout old.scene true (head_of old i).tag) (λ ps. Ok (neighbor_of (head_of old i).tag.tag_byte ps)) n e' in
      let p = pair i s.in_call in
      given_on (tag_at new.layout new.scene new.prefixes i) (λ t. points_at new.layout new.scene true t >>= λ ps. Ok (neighbor_of t.tag_byte ps)) (new_tag_at i) (new_tag_lem i s.in_call)
      ∙ given_on (points_at new.layout new.scene true (new_tag_at i)) (λ ps. Ok (neighbor_of (new_tag_at i).tag_byte ps)) d.value (new_points_lem i s true d.value d.first)
      ∙ ap Ok (neighbor_same (head_of old i).tag.tag_byte (new_tag_at i).tag_byte d.value p.byte.kind p.byte.end)
      ∙ d.then

  -- ---- what a tag draws

  next_tag : (i : ℕ) → i < tags old → (i + 1) % 2 ^ 64 ≡ suc i
  next_tag i h = let n : i + 1 < 2 ^ 64 = omega (arith, few) in mod-eq_of_lt n ∙ (let k : i + 1 ≡ suc i = omega arith in k)

  new_near : (i j : ℕ) → j ≡ suc i → Segment old (suc i) → (n : Neighbor)
      → neighbor_at old.layout old.scene old.prefixes j ≡ Ok n → neighbor_at new.layout new.scene new.prefixes j ≡ Ok n
  new_near i j is g n e =
      subst (λ (k : ℕ). neighbor_at new.layout new.scene new.prefixes k ≡ Ok n) (sym is)
      (new_neighbor (suc i) g n (subst (λ (k : ℕ). neighbor_at old.layout old.scene old.prefixes k ≡ Ok n) is e))

  new_stroke : (i : ℕ) → i < tags old → (end closed : Bool) (width : Float) (s : Shape) → (end ≡ false → Segment old (suc i))
      → stroke_by end closed old.layout old.scene old.prefixes i width ≡ Ok s → stroke_by end closed new.layout new.scene new.prefixes i width ≡ Ok s
  unfolding stroke_by
  new_stroke i h true true width s follows e = e
  new_stroke i h true false width s follows e = e
  new_stroke i h false closed width s follows e =
      let go : Neighbor → Read Shape = λ n. Ok (Stroke width n) in
      let b = came (neighbor_at old.layout old.scene old.prefixes ((i + 1) % 2 ^ 64)) go s e in
      let near : neighbor_at new.layout new.scene new.prefixes ((i + 1) % 2 ^ 64) ≡ Ok b.value =
      new_near i ((i + 1) % 2 ^ 64) (next_tag i h) (follows refl) b.value b.first in
      given_on (neighbor_at new.layout new.scene new.prefixes ((i + 1) % 2 ^ 64)) go b.value near ∙ b.then

  new_shape : (i : ℕ) → Segment old i → (t : Bool) (s : Shape) → is_stroke (head_of old i) ≡ t
      → shape_at t old.layout old.scene old.prefixes i (head_of old i) ≡ Ok s → shape_at t new.layout new.scene new.prefixes i (new_head i) ≡ Ok s
  unfolding shape_at stroke_at
  new_shape i g false s k e = e
  new_shape i g true s k e =
      let p = pair i g.in_call in
      let st : Stroked old i = record { segment = g; stroke = k } in
      let byte = (head_of old i).tag.tag_byte in
      let go : ℕ → Read Shape = λ w. stroke_by (eqb (bit byte 0x04) 1) (eqb (byte % 4) 1) old.layout old.scene old.prefixes i (of_bits binary32 w) in
      let b = came (width_of old.scene old.layout.style_base (head_of old i).tag.monoid.style_ix) go s e in
      rw (p.style, m.styles.width i st, b.first, p.byte.end, p.byte.kind)
      (new_stroke i g.in_call (eqb (bit byte 0x04) 1) (eqb (byte % 4) 1) (of_bits binary32 b.value) s (followed i st) b.then)

  new_drawing : (i : ℕ) → i < tags old → (t : Bool) (es : List Event) → eqb (type_of old i) 0 ≡ t
      → events_by t old.layout old.scene old.prefixes i (head_of old i) ≡ Ok es → events_by t new.layout new.scene new.prefixes i (new_head i) ≡ Ok es
  unfolding events_by
  new_drawing i h true es k e = e
  new_drawing i h false es k e =
      let g : Segment old i = record { in_call = h; drawing = k } in
      let hd = head_of old i in
      let last : List Float → List Vec2 → Shape → Read (List Event) = λ z ps s. Ok (shape_events s hd.flags z ps) in
      let shapes = shape_at (is_stroke hd) old.layout old.scene old.prefixes i hd in
      let points = points_at old.layout old.scene (is_stroke hd) hd.tag in
      let b = came (transform_at old.layout old.scene hd) (λ z. points >>= λ ps. shapes >>= last z ps) es e in
      let z = b.value in
      let c = came points (λ ps. shapes >>= last z ps) es b.then in
      let ps = c.value in
      let d = came shapes (last z ps) es c.then in
      let s = d.value in
      let shapes' = shape_at (is_stroke hd) new.layout new.scene new.prefixes i (new_head i) in
      let points' = points_at new.layout new.scene (is_stroke hd) (new_tag_at i) in
      let transforms : transform_at new.layout new.scene (new_head i) ≡ Ok z = rw ((pair i h).transform, m.transforms i g) b.first in
      given_on (transform_at new.layout new.scene (new_head i)) (λ z. points' >>= λ ps. shapes' >>= last z ps) z transforms
      ∙ given_on points' (λ ps. shapes' >>= last z ps) ps (new_points_lem i g (is_stroke hd) ps c.first)
      ∙ given_on shapes' (last z ps) s (new_shape i g (is_stroke hd) s refl d.first)
      ∙ d.then

  new_events : (i : ℕ) → i < tags old → read_events new i (new_head i) ≡ Ok (drawn_at old i)
  unfolding events_at
  new_events i h =
      rw (pair i h).byte.kind (new_drawing i h (eqb (type_of old i) 0) (drawn_at old i) refl ((done old a).sound i h).events)

  same_at : (i : ℕ) → i < tags old → SameAt old.layout old.scene old.prefixes new.layout new.scene new.prefixes (length old.boxes) i
  same_at i h =
      heads (head_of old i) (new_head i) ((done old a).sound i h).head (ap (λ (b : List PathBox). head_at new.layout new.scene new.prefixes (length b) i) (sym m.lent.boxes) ∙ new_head_lem i h) (same_head i h) (((done old a).sound i h).events ∙ sym (new_events i h))

  -- ---- the call

  -- where tags are left, those behind and those left are all
  record Turning (s : State) : Type 0 where
    boxes : length s.boxes ≡ length old.boxes
    tag : 0 < s.turn.left → s.turn.tag + s.turn.left ≡ tags old

  next_turning : (s : State) → ltb 0 s.turn.left ≡ true → Turning s → Turning (taken s.boxes (step_of old.layout old.scene old.prefixes s.lines (length s.boxes) s.turn))
  unfolding taken changed_at
  next_turning s l t = record { boxes = simp length-set t.boxes; tag = go (turns old.layout old.scene old.prefixes s.lines (length s.boxes) s.turn) }
    where
      o : Stepped
      o = step_of old.layout old.scene old.prefixes s.lines (length s.boxes) s.turn

      go : Goes old.layout old.scene old.prefixes s.lines (length s.boxes) s.turn o ⊎ Halts o.turn → 0 < o.turn.left → o.turn.tag + o.turn.left ≡ tags old
      go (inl g) k =
          let before = t.tag (ltb-true _ _ l) in
          let some : 0 < s.turn.left = ltb-true _ _ l in
          let fits : s.turn.tag + 1 < 2 ^ 64 = omega (arith, few) in
          let wraps : (s.turn.tag + 1) % 2 ^ 64 ≡ s.turn.tag + 1 = mod-eq_of_lt fits in
          omega (arith, g.left, g.tag)
      go (inr x) k = absurd (omega (arith, x.left))

  start_of_lem : (c : Call) → ltb (length c.scene) c.layout.tag_base || ltb (length c.scene) c.layout.data_base ≡ false → start_of c.layout (length c.scene) ≡ first_turn (tags c) None
  unfolding start_of
  start_of_lem c e = ap (λ (b : Bool). start_at b c.layout) e

  old_bases : (t : Bool) → ltb (length old.scene) old.layout.tag_base || ltb (length old.scene) old.layout.data_base ≡ t → t ≡ false
  old_bases false e = refl
  old_bases true e =
      let k = ap (λ (o : Outcome). o.answer.number) (bad_base old.layout old.scene old.prefixes old.boxes old.lines e) in
      let l = ap (λ (t : Told). t.number) a.answer in
      let z : ◌≡◌ {A = ℕ} 0 1 = cc in absurd (omega arith)

  new_bases : ltb (length new.scene) new.layout.tag_base || ltb (length new.scene) new.layout.data_base ≡ false
  new_bases =
      let t : new.layout.tag_base ≤ length new.scene = omega (arith, m.tags.there) in
      let d : new.layout.data_base ≤ length new.scene = omega (arith, m.points.there) in
      rw (le-ltb _ _ t, le-ltb _ _ d)

  old_start : start_of old.layout (length old.scene) ≡ first_turn (tags old) None
  old_start = start_of_lem old (old_bases _ refl)

  same_start : start_of old.layout (length old.scene) ≡ start_of new.layout (length new.scene)
  same_start = old_start ∙ ap (λ (n : ℕ). first_turn (n * 256) None) (sym m.lent.workgroups) ∙ sym (start_of_lem new new_bases)

  abbrev first : State
  first = record { turn = start_of old.layout (length old.scene); boxes = old.boxes; lines = old.lines }

  all_turning : (k : ℕ) → Turning (after k old.layout old.scene old.prefixes first)
  unfolding first_turn
  all_turning k =
      carried old.layout old.scene old.prefixes Turning next_turning k first
      (record { boxes = refl; tag = λ h. ap (λ (t : Turn). t.tag + t.left) old_start ∙ (let e : 0 + tags old ≡ tags old = omega arith in e) })

  -- A moved sheet, freshly scanned, gives the answer, the boxes and the lines of the old one.
  pub same_flattening : outcome new ≡ outcome old
  same_flattening =
      ap (λ (l : List ℕ). call_of new.layout new.scene new.prefixes new.boxes l) m.lent.lines
      ∙ ap (λ (b : List PathBox). call_of new.layout new.scene new.prefixes b old.lines) m.lent.boxes
      ∙ sym (same_events old.layout old.scene old.prefixes new.layout new.scene new.prefixes old.boxes old.lines (sym m.lent.workgroups) same_start
      (λ k h l. let t = all_turning k in let s = after k old.layout old.scene old.prefixes first in
      let some : 0 < s.turn.left = ltb-true _ _ l in
      let here : s.turn.tag < tags old = omega (arith, t.tag some) in
      rw t.boxes (same_at s.turn.tag here)))
