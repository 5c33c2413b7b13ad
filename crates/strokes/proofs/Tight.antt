-- Open strokes are watertight: the theorems. What they speak of is defined in Stroke.antt and Number.antt. Assumes nothing.
use Prim.Native.Nat.{ℕ, zero, suc, ◌+◌, ◌/◌, ◌%◌, ◌<◌, ◌≤◌}
use Rattle.std.specs.Prelude.{◌≡◌, true, false, T, eqb, Float}
use Rattle.std.proofs.Math.Path.{refl, subst}
use Rattle.std.proofs.Common.{sym, ap, ◌∙◌}
use mathlib.Core.List.{List, [], ◌∷◌, ◌++◌, append-nil, append_assoc}
use native.Mathlib.Omega.{arith}
use Rattle.std.specs.Float.Ieee.{binary32, of_bits}
use Rattle.spiral.specs.Util.{add_of, sub_of, mul_of, normalize_of, eq_of, apply_of}
use Rattle.spiral.specs.Points.{SamePoint, eq→same_point, apply_same}
use Rattle.spiral.specs.declared.util.Vec2.{Vec2}
use Rattle.drawing.specs.Sheet.{Event}
use Rattle.drawing.specs.Join.{corners_of}
use Rattle.segment.specs.Segment.{quarter, steady_of, neighbor_of, stroke_events}
use Rattle.segment.specs.declared.Neighbor.{Neighbor}
use Rattle.scene.specs.Reading.{floats_at}
use Rattle.watertight.specs.Balance.{AllLines, starts_append, ends_append}
use Rattle.watertight.specs.Fill.{Call, Accepted, head_of, first_of, last_of, drawn_at, Each, lines_of}
use Rattle.watertight.specs.Accepted.{Sound, done}
use Rattle.records.specs.Record.{once}
use Rattle.watertight.specs.Count.{starts_by, ends_by}
use Rattle.watertight.specs.Stored.{as_drawn}
use Rattle.strokes.specs.Number.{keys_are, is_at, starts, ends, starts_at, ends_at}
use Rattle.strokes.specs.Stroke.{stroke_cubic, start_point, end_point, start_along, half_of_style, Style, join_corners, run, OpenStroke, is_bevel, plus_coincides, minus_coincides, BevelsAgree, left_out, all_left_out, stored}
use Rattle.strokes.specs.Leads.{at_same, Blind, Leads, Pair, given, closed_by, reorder, balanced}
use Rattle.strokes.specs.Parts.{undrawn_balances}
use Rattle.strokes.specs.NumberLaws.{equal_same}
use Rattle.strokes.specs.Alike.{point_refl, point_sym, add_same, sub_same, mul_same, quarter_same, normal_fit}
use Rattle.strokes.specs.Turned.{turned_long}
use Rattle.strokes.specs.Sides.{normal_of}
use Rattle.strokes.specs.Segments.{joined_on, capped_off, start_cap}
use Rattle.strokes.specs.Ends.{segment_ends}
use Rattle.strokes.specs.Reads.{cubic_fits, stroke_drawn, cap_drawn, joins_on, caps_off}

-- ---- lists of tags
run_last : (i n : ℕ) → run i (suc n) ≡ run i n ++ ((i + n) ∷ [])
unfolding run
run_last i zero = let e : i ≡ i + 0 = omega arith in ap (λ (k : ℕ). k ∷ []) e
run_last i (suc n) = let e : suc i + n ≡ i + suc n = omega arith in ap (λ (l : List ℕ). i ∷ l) (run_last (suc i) n ∙ ap (λ (k : ℕ). run (suc i) n ++ (k ∷ [])) e)

lines_append : (c : Call) (is js : List ℕ) → lines_of c (is ++ js) ≡ lines_of c is ++ lines_of c js
unfolding lines_of
lines_append c [] js = refl
lines_append c (i ∷ is) js = ap (λ (es : List Event). drawn_at c i ++ es) (lines_append c is js) ∙ sym (append_assoc (drawn_at c i) (lines_of c is) (lines_of c js))

module _ (c : Call) (a : Accepted c) (i n : ℕ) (o : OpenStroke c i n) where
  s : Style
  s = o.style

  z : List Float
  z = floats_at o.z 0

  sound : (k : ℕ) → i ≤ k → k ≤ i + n → Sound c k
  sound k g l = (done c a).sound k (o.stroked k g l).in_call

  its_ends : (k : ℕ) → i ≤ k → k < i + n → (start_point c k ≡ first_of c k) × (end_point c k ≡ last_of c k)
  its_ends k g l = segment_ends c k (o.stroked k g (omega arith)).segment (o.goes_on_lem k g l)

  meets : (k : ℕ) → i ≤ k → suc k < i + n → T (eq_of (end_point c k) (start_point c (suc k)))
  meets k g l = rw ((its_ends k g (omega arith)).1, (its_ends (suc k) (omega arith) l).0) (o.follows k g l)

  starts_at_lem : T (eq_of (start_point c (i + n)) (start_point c i))
  starts_at_lem = rw (its_ends i (omega arith) (omega (arith, o.some))).0 o.starts_at_lem

  -- the normal at the start of a tag, and the two ends of its sides there
  normal : ℕ → Vec2
  normal k = normal_of (start_along c k) (half_of_style s)

  plus : ℕ → Vec2
  plus k = apply_of z (add_of (start_point c k) (normal k))

  minus : ℕ → Vec2
  minus k = apply_of z (sub_of (start_point c k) (normal k))

  -- what a segment draws, by what it sees behind it
  drawn_by_lem : (k : ℕ) → i ≤ k → k < i + n → (m : Neighbor) → neighbor_of (head_of c (suc k)).tag.tag_byte (stroke_cubic c (suc k)) ≡ m
      → stroke_events s.flags z (stroke_cubic c k) (of_bits binary32 s.width) m ≡ drawn_at c k
  unfolding s z
  drawn_by_lem k g l m e =
      let there = o.stroked (suc k) (omega arith) (omega arith) in
      subst (λ (m : Neighbor). stroke_events s.flags z (stroke_cubic c k) (of_bits binary32 s.width) m ≡ drawn_at c k) e
      (stroke_drawn c s o.z k (o.stroked k g (omega arith)) o.stroke (sound k g (omega arith)) a.u32 there.in_call (o.goes_on_lem k g l) (sound (suc k) (omega arith) (omega arith)))

  -- the last segment leads from side + to side -
  last : (k : ℕ) → i ≤ k → suc k ≡ i + n → Leads (plus k) (minus k) (drawn_at c k)
  unfolding plus minus normal s z
  last k g e =
      let m = subst (λ (j : ℕ). (eqb ((head_of c j).tag.tag_byte / 0x04 % 2) 1 ≡ true) × (eqb ((head_of c j).tag.tag_byte % 4) 1 ≡ false)) (sym e) o.marker in
      let next = sub_of (end_point c (suc k)) (start_point c (suc k)) in
      let d = drawn_by_lem k g (omega arith) (record { do_join = false; tangent = next }) (caps_off _ (stroke_cubic c (suc k)) m.0 m.1) in
      let l : AllLines (drawn_at c k) = (sound k g (omega arith)).lines in
      subst (Leads (plus k) (minus k)) d
      (capped_off s.flags z (stroke_cubic c k) (of_bits binary32 s.width) (cubic_fits c k) o.wide next (subst AllLines (sym d) l))

  -- any other takes side + on to the next segment's, and that one's side - back
  onward : (k : ℕ) → i ≤ k → suc k < i + n
      → Pair (plus k) (apply_of z (add_of (end_point c k) (normal (suc k)))) (apply_of z (sub_of (end_point c k) (normal (suc k)))) (minus k) (drawn_at c k ++ left_out c s o.z k)
  unfolding plus minus normal s z left_out
  onward k g l =
      let next = start_along c (suc k) in
      let d = drawn_by_lem k g (omega arith) (record { do_join = true; tangent = next }) (joins_on _ (stroke_cubic c (suc k)) (o.goes_on_lem (suc k) (omega arith) l)) in
      let h : AllLines (drawn_at c k) = (sound k g (omega arith)).lines in
      subst (λ (es : List Event). Pair (plus k) (apply_of z (add_of (end_point c k) (normal (suc k)))) (apply_of z (sub_of (end_point c k) (normal (suc k)))) (minus k) (es ++ left_out c s o.z k)) d
      (joined_on s.flags z (stroke_cubic c k) (of_bits binary32 s.width) (cubic_fits c k) o.wide next (subst AllLines (sym d) h))

  -- where the next one starts the side is the same point, as numbers
  met : (k : ℕ) (es : List Event) → SamePoint (end_point c k) (start_point c (suc k)) → Leads (plus (suc k)) (minus (suc k)) es
      → Leads (apply_of z (add_of (end_point c k) (normal (suc k)))) (apply_of z (sub_of (end_point c k) (normal (suc k)))) es
  unfolding plus minus
  met k es m l =
      let p = start_point c (suc k) in
      let q = end_point c k in
      let v = normal (suc k) in
      given (plus (suc k)) (minus (suc k)) _ _ es
      (apply_same z (add_of p v) (add_of q v) (add_same p q v v (point_sym q p m) (point_refl v)))
      (apply_same z (sub_of p v) (sub_of q v) (sub_same p q v v (point_sym q p m) (point_refl v)))
      l

  -- the segments from tag k on, with what their joins leave out, lead from its side + to its side -
  segments : (d k : ℕ) → i ≤ k → k + suc d ≡ i + n → Leads (plus k) (minus k) (lines_of c (run k (suc d)) ++ all_left_out c s o.z k (suc d))
  unfolding run lines_of all_left_out
  segments zero k g e =
      let h : suc k ≡ i + n = omega arith in
      subst (Leads (plus k) (minus k)) (sym (append-nil (drawn_at c k ++ []) ∙ append-nil (drawn_at c k))) (last k g h)
  segments (suc d) k g e =
      let l : suc k < i + n = omega arith in
      let there : suc k + suc d ≡ i + n = omega arith in
      let meet = eq→same_point (end_point c k) (start_point c (suc k)) (cubic_fits c k).p3 (cubic_fits c (suc k)).p0 (meets k g l) in
      let us = left_out c s o.z k in
      let ys = lines_of c (run (suc k) (suc d)) in
      let vs = all_left_out c s o.z (suc k) (suc d) in
      reorder (plus k) (minus k) (drawn_at c k) ys us vs
      (closed_by _ _ _ _ (drawn_at c k ++ us) (ys ++ vs) (onward k g l) (met k (ys ++ vs) meet (segments d (suc k) (omega arith) there)))

  -- the marker leads back
  back : Leads (minus i) (plus i) (drawn_at c (i + n))
  unfolding plus minus normal s z
  back =
      let m = i + n in
      let p = start_point c m in
      let q = start_point c i in
      let v = normalize_of (sub_of (end_point c m) p) in
      let w = normalize_of (steady_of (start_along c i)) in
      let h = half_of_style s in
      let here = eq→same_point p q (cubic_fits c m).p0 (cubic_fits c i).p0 starts_at_lem in
      let along = eq→same_point v w (normal_fit (sub_of (end_point c m) p)) (normal_fit (steady_of (start_along c i))) o.along in
      let turned : SamePoint (quarter (mul_of v h)) (mul_of (quarter w) h) = rw (turned_long v h) (mul_same (quarter v) (quarter w) h (quarter_same v w along)) in
      let d = cap_drawn c s o.z m (o.stroked m (omega arith) (omega arith)) o.stroke (sound m (omega arith) (omega arith)) o.marker.0 o.marker.1 in
      subst (Leads (minus i) (plus i)) d
      (given _ _ (minus i) (plus i) _
      (apply_same z (sub_of p (quarter (mul_of v h))) (sub_of q (mul_of (quarter w) h)) (sub_same p q (quarter (mul_of v h)) (mul_of (quarter w) h) here turned))
      (apply_same z (add_of p (quarter (mul_of v h))) (add_of q (mul_of (quarter w) h)) (add_same p q (quarter (mul_of v h)) (mul_of (quarter w) h) here turned))
      (start_cap s.flags z (stroke_cubic c m) (of_bits binary32 s.width)))

-- ---- the theorems

-- Of any open stroke subpath of an accepted call, with the lines that its bevel joins leave out: whatever is counted of points, if it sees no sign of a zero, sums up
-- to the same over the starts of the lines and over their ends. So a point that is open is a corner, transformed, of a bevel join that draws nothing.
pub strokes_with_left_out : (c : Call) → Accepted c → (i n : ℕ) (o : OpenStroke c i n) (at : Vec2 → ℕ) → Blind at
    → starts_by at (lines_of c (run i (suc n)) ++ all_left_out c o.style o.z i n) ≡ ends_by at (lines_of c (run i (suc n)) ++ all_left_out c o.style o.z i n)
unfolding lines_of s
strokes_with_left_out c a i zero o at blind = absurd (omega (arith, o.some))
strokes_with_left_out c a i (suc d) o at blind =
    let n = suc d in
    rw (run_last i n, lines_append c (run i n) ((i + n) ∷ []), append-nil (drawn_at c (i + n)))
    (balanced (plus c a i n o i) (minus c a i n o i) (lines_of c (run i n)) (drawn_at c (i + n)) (all_left_out c o.style o.z i n) (segments c a i n o d i (omega arith) refl) (back c a i n o) at blind)

-- what is left out balances where the two sides of each bevel join both coincide or both are apart
module _ (c : Call) (s : Style) (z : List ℕ) (at : Vec2 → ℕ) (blind : Blind at) where
  one_balances : (k : ℕ) → (is_bevel s ≡ true → plus_coincides c s k ≡ minus_coincides c s k) → starts_by at (left_out c s z k) ≡ ends_by at (left_out c s z k)
  unfolding left_out join_corners corners_of
  one_balances k h = undrawn_balances s.flags (floats_at z 0) (end_point c k) _ _ h at blind

  left_out_balances : (d i : ℕ) → BevelsAgree c s i d → starts_by at (all_left_out c s z i d) ≡ ends_by at (all_left_out c s z i d)
  unfolding all_left_out starts_by ends_by
  left_out_balances zero i b = refl
  left_out_balances (suc zero) i b = refl
  left_out_balances (suc (suc d)) i b =
      let r = left_out_balances (suc d) (suc i) (λ e k g l. b e k (omega arith) (omega arith)) in
      omega (
        arith,
        r,
        one_balances i (λ e. b e i (omega arith) (omega arith)),
        starts_append at (left_out c s z i) (all_left_out c s z (suc i) (suc d)),
        ends_append at (left_out c s z i) (all_left_out c s z (suc i) (suc d)),
      )

-- so the lines alone balance
pub strokes_balanced : (c : Call) → Accepted c → (i n : ℕ) (o : OpenStroke c i n) → BevelsAgree c o.style i n
    → (at : Vec2 → ℕ) → Blind at → starts_by at (lines_of c (run i (suc n))) ≡ ends_by at (lines_of c (run i (suc n)))
strokes_balanced c a i n o b at blind =
    let es = lines_of c (run i (suc n)) in
    let us = all_left_out c o.style o.z i n in
    omega (arith, strokes_with_left_out c a i n o at blind, left_out_balances c o.style o.z at blind n i b, starts_append at es us, ends_append at es us)

-- among the lines of an open stroke subpath of an accepted call every device point, +0 and -0 being one, is a start exactly as often as it is an end; where its joins
-- are bevel, if the two sides of each both coincide or both are apart
pub strokes_watertight : (c : Call) → Accepted c → (i n : ℕ) (o : OpenStroke c i n) → BevelsAgree c o.style i n
    → (x y : ℕ) → starts x y (lines_of c (run i (suc n))) ≡ ends x y (lines_of c (run i (suc n)))
strokes_watertight c a i n o b x y = strokes_balanced c a i n o b (is_at x y) (at_same x y)

-- the same said of numbers: as many lines start at a point that equals q as end at one
pub strokes_watertight_numbers : (c : Call) → Accepted c → (i n : ℕ) (o : OpenStroke c i n) → BevelsAgree c o.style i n
    → (q : Vec2) → starts_at q (lines_of c (run i (suc n))) ≡ ends_at q (lines_of c (run i (suc n)))
strokes_watertight_numbers c a i n o b q = strokes_balanced c a i n o b (λ p. once (eq_of p q)) (equal_same q)

-- what holds of each tag from i on
each_run : (P : ℕ → Type 0) (i n : ℕ) → ((k : ℕ) → i ≤ k → k < i + n → P k) → Each P (run i n)
unfolding run Each
each_run P i zero h = tt
each_run P i (suc n) h = (h i (omega arith) (omega arith), each_run P (suc i) n (λ k g l. h k (omega arith) (omega arith)))

-- as they stand in the lent words after the call, the records of these tags have each point, +0 and -0 being one, as a start, at place 2, exactly as often as an end, at place 4
pub strokes_watertight_stored : (c : Call) → Accepted c → (i n : ℕ) (o : OpenStroke c i n) → BevelsAgree c o.style i n
    → (x y : ℕ) → stored c 2 x y (run i (suc n)) ≡ stored c 4 x y (run i (suc n))
strokes_watertight_stored c a i n o b x y =
    let k = as_drawn c a (keys_are x y) (is_at x y) (run i (suc n)) (each_run _ i (suc n) (λ k g l. record { in_call = (o.stroked k g (omega arith)).in_call; path = refl })) in
    k.0 ∙ strokes_watertight c a i n o b x y ∙ sym k.1

-- miter and round joins ask nothing more, whatever the caps
pub no_bevel : (c : Call) (s : Style) (i n : ℕ) → is_bevel s ≡ false → BevelsAgree c s i n
no_bevel c s i n h e = absurd (no h e)
  where
    no : is_bevel s ≡ false → is_bevel s ≡ true → ⊥
    no p q = let z : ◌≡◌ {A = ℕ} 0 1 = cc in omega arith

-- nor does a subpath of one segment, which has no join
pub no_join_lem : (c : Call) (s : Style) (i : ℕ) → BevelsAgree c s i 1
no_join_lem c s i e k g l = absurd (omega arith)
