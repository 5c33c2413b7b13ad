-- Before it draws, a tag is refused by number 2, 3, 4 or 9 alone, and drawing by none of these: so number 1 is given only where a base lies past the scene's end. The count that an answer tells is that of the records stored. Assumes nothing.
use Rattle.std.specs.Prelude.{◌≡◌, ℕ, ◌+◌, ◌*◌, ◌%◌, ◌^◌, ◌≤◌, Bool, true, false, ◌&&◌, ◌||◌, ltb, ◌⊎◌, List, [], ◌∷◌, length, ◌==◌, from_bits, nat_le, nat_lt, refl, Float, Ok, Err, Option, Some, None}
use Rattle.std.proofs.Common.{sym, subst, inl, inr, arith}
use Rattle.std.specs.Float.Ieee.{binary32}
use Rattle.refusals.specs.declared.Refusal.{Refusal}
use Rattle.refusals.specs.Refusals.{number_of, Read}
use Rattle.spiral.specs.declared.util.Vec2.{Vec2}
use Rattle.spiral.specs.Util.{has_nan}
use Rattle.drawing.specs.Sheet.{Event, line, no_count, no_join, Sheet, sheet, has_room, stored, draw_on, draw, draw_all, Drawn}
use Rattle.drawing.specs.declared.line.Pen.{Pen}
use Rattle.scene.specs.Early.{Early, read, outside, no_prefix, no_box, bad_transform, either, tag_early, flags_early, width_early, segment_early, numbers_early}
use Rattle.scene.specs.Tags.{bit}
use Rattle.scene.specs.Reading.{all_finite}
use Rattle.scene.specs.declared.tags.PathTagData.{PathTagData}
use Rattle.segment.specs.Segment.{neighbor_of, shape_events}
use Rattle.segment.specs.declared.Shape.TheVariants.{Nothing, Fill, StartCap, Stroke}
use Rattle.flatten.specs.Tag.{◌>>=◌, points_at, finite_only, transform_at, is_path, boxed, head_at, neighbor_at, stroke_by, stroke_at, is_stroke, shape_at, events_by, events_at}
use Rattle.flatten.specs.Step.{drawn_of, fresh_pen, turn_of, refused_at, behind, tag_word, step_from_by, step_of, step_by}
use Rattle.flatten.specs.Call.{first_turn, start_at, start_of, State, taken, after, answer_for, answer_of, told_of, call_of, call_by}
use Rattle.flatten.specs.CallLaws.{carried}
use Rattle.flatten.specs.Stands.{none, Stored, call_stands}
use Rattle.flatten.specs.declared.boxes.PathBox.{PathBox}
use Rattle.flatten.specs.declared.call.Layout.{Layout}
use Rattle.flatten.specs.declared.call.Turn.{Turn}
use Rattle.flatten.specs.declared.tag.Head.{Head}

-- ---- what is read

bound : {A B : Type 0} {r : Read A} {f : A → Read B} → Early r → ((a : A) → Early (f a)) → Early (r >>= f)
bound (read a) k = k a
bound outside k = outside
bound no_prefix k = no_prefix
bound no_box k = no_box
bound bad_transform k = bad_transform

finite_early : (z : List Float) → Early (finite_only z)
unfolding finite_only
finite_early z = either (all_finite z) (read z) bad_transform

module _ (layout : Layout) (scene prefixes : List ℕ) where
  points_early : (stroke : Bool) (t : PathTagData) → Early (points_at layout scene stroke t)
  points_early stroke t = segment_early t.tag_byte stroke t.monoid.pathseg_offset scene layout.data_base

  transform_early : (h : Head) → Early (transform_at layout scene h)
  transform_early h = bound (numbers_early scene layout.transform_base h.tag.monoid.trans_ix) finite_early

  box_early : (n : ℕ) (h : Head) → Early (boxed n h)
  unfolding boxed
  box_early n h = either (is_path h && nat_le n h.tag.monoid.path_ix) no_box (read h)

  pub head_early : (n ix : ℕ) → Early (head_at layout scene prefixes n ix)
  unfolding head_at
  head_early n ix =
      bound (tag_early scene layout.tag_base prefixes ix) (λ t. bound (flags_early scene layout.style_base t.monoid.style_ix) (λ flags. box_early n (record { tag = t; flags = flags })))

  neighbor_early : (ix : ℕ) → Early (neighbor_at layout scene prefixes ix)
  unfolding neighbor_at
  neighbor_early ix = bound (tag_early scene layout.tag_base prefixes ix) (λ t. bound (points_early true t) (λ ps. read (neighbor_of t.tag_byte ps)))

  stroke_early : (end closed : Bool) (ix : ℕ) (width : Float) → Early (stroke_by end closed layout scene prefixes ix width)
  unfolding stroke_by
  stroke_early true true ix width = read Nothing
  stroke_early true false ix width = read (StartCap width)
  stroke_early false closed ix width = bound (neighbor_early ((ix + 1) % 2 ^ 64)) (λ n. read (Stroke width n))

  shape_early : (stroke : Bool) (ix : ℕ) (h : Head) → Early (shape_at stroke layout scene prefixes ix h)
  unfolding shape_at stroke_at
  shape_early true ix h =
      let byte = h.tag.tag_byte in
      bound (width_early scene layout.style_base h.tag.monoid.style_ix) (λ w. stroke_early (bit byte 0x04 == 1) (byte % 4 == 1) ix (from_bits binary32 w))
  shape_early false ix h = read Fill

  events_by_early : (b : Bool) (ix : ℕ) (h : Head) → Early (events_by b layout scene prefixes ix h)
  unfolding events_by
  events_by_early true ix h = read []
  events_by_early false ix h =
      bound (transform_early h) (λ z. bound (points_early (is_stroke h) h.tag) (λ ps. bound (shape_early (is_stroke h) ix h) (λ s. read (shape_events s h.flags z ps))))

  pub events_early : (ix : ℕ) (h : Head) → Early (events_at layout scene prefixes ix h)
  unfolding events_at
  events_early ix h = events_by_early (h.tag.tag_byte % 4 == 0) ix h

-- ---- number 1

-- what is drawn is refused by 5 to 8 alone
unfoldable Late : Drawn → Type 0
Late (Ok pen) = Unit {0}
Late (Err s) = (5 ≤ number_of s.why) × (number_of s.why ≤ 8)

stored_late : (s t u : Bool) (path : ℕ) (ws : List ℕ) (pen : Pen) (p q : Vec2) → Late (stored s t u path ws pen p q).drawn
unfolding Late stored number_of
stored_late true t u path ws pen p q = (omega arith, omega arith)
stored_late false true u path ws pen p q = (omega arith, omega arith)
stored_late false false false path ws pen p q = (omega arith, omega arith)
stored_late false false true path ws pen p q = tt

draw_late : (path : ℕ) (ws : List ℕ) (d : Drawn) (e : Event) → Late d → Late (draw path ws d e).drawn
unfolding Late draw draw_on number_of
draw_late path ws (Ok pen) (line p q) h = stored_late (has_nan p) (has_nan q) (has_room ws pen.count) path ws pen p q
draw_late path ws (Ok pen) no_count h = (omega arith, omega arith)
draw_late path ws (Ok pen) no_join h = (omega arith, omega arith)
draw_late path ws (Err s) e h = h

all_late : (path : ℕ) (s : Sheet) (es : List Event) → Late s.drawn → Late (draw_all path s es).drawn
unfolding draw_all
all_late path s [] h = h
all_late path s (e ∷ es) h = all_late path (draw path s.words s.drawn e) es (draw_late path s.words s.drawn e h)

turn_late : (t : Turn) (h : Head) (d : Drawn) (n : ℕ) → Late d → (told_of (answer_of (turn_of t h d))).number ≡ n → (n ≡ 0) ⊎ ((5 ≤ n) × (n ≤ 8))
unfolding Late turn_of answer_of told_of
turn_late t h (Ok pen) n k e = inl (sym e)
turn_late t h (Err s) n k e = inr (omega (arith, k.0, e), omega (arith, k.1, e))

-- where a tag draws, its number is none, or 5 to 8
pub drawing_late : (t : Turn) (h : Head) (ws : List ℕ) (path : ℕ) (es : List Event) (n : ℕ)
    → (told_of (answer_of (behind t h (drawn_of path (fresh_pen tag_word t) ws (Ok es))).turn)).number ≡ n → (n ≡ 0) ⊎ ((5 ≤ n) × (n ≤ 8))
unfolding Late drawn_of
drawing_late t h ws path es n e =
    let s = sheet ws (Ok (fresh_pen tag_word t)) in
    turn_late t h (draw_all path s es).drawn n (all_late path s es tt) e

abbrev NotOne : Turn → Type 0
NotOne t = (told_of (answer_of t)).number ≡ 1 → ⊥

not_late : (n : ℕ) → n ≡ 1 → (n ≡ 0) ⊎ ((5 ≤ n) × (n ≤ 8)) → ⊥
not_late n e (inl h) = omega (arith, e, h)
not_late n e (inr h) = omega (arith, e, h.0)

drawing_not_one : (t : Turn) (h : Head) (ws : List ℕ) (path : ℕ) {r : Read (List Event)} → Early r → NotOne (behind t h (drawn_of path (fresh_pen tag_word t) ws r)).turn
unfolding drawn_of turn_of answer_of told_of number_of
drawing_not_one t h ws path (read es) = λ e. not_late 1 refl (drawing_late t h ws path es 1 e)
drawing_not_one t h ws path outside = λ e. omega arith
drawing_not_one t h ws path no_prefix = λ e. omega arith
drawing_not_one t h ws path no_box = λ e. omega arith
drawing_not_one t h ws path bad_transform = λ e. omega arith

head_not_one : {r : Read Head} → Early r → (layout : Layout) (scene prefixes ws : List ℕ) (t : Turn) → NotOne (step_from_by tag_word r layout scene prefixes ws t).turn
unfolding step_from_by refused_at answer_of told_of number_of
head_not_one (read h) layout scene prefixes ws t = drawing_not_one t h ws h.tag.monoid.path_ix (events_early layout scene prefixes t.tag h)
head_not_one outside layout scene prefixes ws t = λ e. omega arith
head_not_one no_prefix layout scene prefixes ws t = λ e. omega arith
head_not_one no_box layout scene prefixes ws t = λ e. omega arith
head_not_one bad_transform layout scene prefixes ws t = λ e. omega arith

step_not_one : (layout : Layout) (scene prefixes ws : List ℕ) (n : ℕ) (t : Turn) → NotOne (step_of layout scene prefixes ws n t).turn
unfolding step_by
step_not_one layout scene prefixes ws n t = head_not_one (head_early layout scene prefixes n t.tag) layout scene prefixes ws t

start_not_one : (layout : Layout) → NotOne (start_at false layout)
unfolding first_turn answer_of told_of
start_not_one layout = λ e. omega arith

from_base : (b : Bool) (layout : Layout) (scene prefixes : List ℕ) (ps : List PathBox) (ws : List ℕ) (m : ℕ)
    → (told_of (answer_of (after m layout scene prefixes (record { turn = start_at b layout; boxes = ps; lines = ws })).turn)).number ≡ 1 → b ≡ true
unfolding taken
from_base true layout scene prefixes ps ws m e = refl
from_base false layout scene prefixes ps ws m e =
    absurd (carried layout scene prefixes (λ (u : State). NotOne u.turn) (λ u l k. step_not_one layout scene prefixes u.lines (length u.boxes) u.turn)
    m (record { turn = start_at false layout; boxes = ps; lines = ws }) (start_not_one layout) e)

-- refusal 1 is given only where a base lies past the scene's end; that it is given there is `bad_base`
pub one_is_bad_base : (layout : Layout) (scene prefixes : List ℕ) (ps : List PathBox) (ws : List ℕ)
    → (call_of layout scene prefixes ps ws).answer.number ≡ 1 → nat_lt (length scene) layout.tag_base || nat_lt (length scene) layout.data_base ≡ true
unfolding call_by start_of
one_is_bad_base layout scene prefixes ps ws e =
    from_base (nat_lt (length scene) layout.tag_base || nat_lt (length scene) layout.data_base) layout scene prefixes ps ws (layout.n_wg * 256) e

-- ---- what the answer tells

pub tells : (s : Option Refusal) (tag count : ℕ) → (told_of (answer_for s tag count)).count ≡ count
unfolding told_of
tells None tag count = refl
tells (Some why) tag count = refl

pub start_count : (b : Bool) (layout : Layout) → (start_at b layout).count ≡ 0
unfolding first_turn
start_count true layout = refl
start_count false layout = refl

-- the lines are as many whole records as the answer tells, and behind them the words at entry
pub call_stored : (layout : Layout) (scene prefixes : List ℕ) (ps : List PathBox) (ws : List ℕ)
    → Stored ws [] (call_of layout scene prefixes ps ws).answer.count (call_of layout scene prefixes ps ws).lines
unfolding call_by start_of answer_of
call_stored layout scene prefixes ps ws =
    let b = nat_lt (length scene) layout.tag_base || ltb (length scene) layout.data_base in
    let s : State = record { turn = start_at b layout; boxes = ps; lines = ws } in
    let m = layout.n_wg * 256 in
    let t = (after m layout scene prefixes s).turn in
    let start : Stored ws [] s.turn.count ws = subst (λ (n : ℕ). Stored ws [] n ws) (sym (start_count b layout)) (record { all = []; rest = []; before = refl; lines = none; words = refl }) in
    subst (λ (n : ℕ). Stored ws [] n (after m layout scene prefixes s).lines) (sym (tells t.stop t.tag t.count)) (call_stands layout scene prefixes ws [] m s start)
