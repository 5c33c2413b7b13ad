-- But for the second word of the records stored, the call is the scope paper's: the same answer, the same boxes, the same words. Assumes nothing.
use Rattle.std.specs.Prelude.{◌≡◌, ℕ, zero, suc, ◌+◌, ◌*◌, ◌<◌, Bool, true, false, ◌||◌, ltb, List, [], ◌∷◌, length, ◌≢◌, nat_lt, slice_set, to_bits, Ok, Err}
use Rattle.std.proofs.Math.Path.{refl, ap}
use Rattle.std.proofs.Common.{sym, ◌∙◌, add-one, arith, length-set, set-set}
use Rattle.std.proofs.lemmas.List.Edits.{sets}
use Rattle.std.proofs.lemmas.List.{set_comm}
use Rattle.std.specs.Float.{binary32}
use Rattle.refusals.specs.Refusals.{Read}
use Rattle.spiral.specs.declared.util.Vec2.{Vec2}
use Rattle.spiral.specs.Util.{has_nan}
use Rattle.drawing.specs.Sheet.{Event, line, no_count, no_join, Sheet, sheet, record_of, pen_behind, has_room, stored, draw_on, draw, draw_all, count_of, Drawn}
use Rattle.drawing.specs.declared.line.Pen.{Pen}
use Rattle.flatten.specs.Tag.{head_at, events_at}
use Rattle.flatten.specs.Step.{tag_word, no_word, drawn_of, fresh_pen, turn_of, refused_at, Stepped, stepped, behind, step_from_by, step_by}
use Rattle.flatten.specs.Call.{start_at, start_of, State, taken, onward_by, next_by, after_by, answer_of, told_of, outcome_of, outcome, call_by, call_of, plain_call_of}
use Rattle.flatten.specs.Refusals.{tells, start_count}
use Rattle.flatten.specs.Stands.{end_count}
use Rattle.flatten.specs.Whose.{aside, set_aside}
use Rattle.flatten.specs.declared.boxes.PathBox.{PathBox}
use Rattle.flatten.specs.declared.call.Layout.{Layout}
use Rattle.flatten.specs.declared.call.Turn.{Turn}
use Rattle.flatten.specs.declared.tag.Head.{Head}

-- ---- words
apart : (i j : ℕ) → j < i → i ≢ j
apart i j h e = omega arith

-- a word before the run of stores may be set first
set_sets : (l : List ℕ) (i j : ℕ) (vs : List ℕ) (a : ℕ) → j < i → slice_set (sets l i vs) j a ≡ sets (slice_set l j a) i vs
set_sets l i j [] a h = refl
set_sets l i j (v ∷ vs) a h = set_sets (slice_set l i v) (suc i) j vs a (omega arith) ∙ ap (λ (m : List ℕ). sets m (suc i) vs) (set_comm l i j v a (apart i j h))

aside_sets : (n m : ℕ) (ws vs : List ℕ) → aside n (sets ws (n * 6 + m * 6) vs) ≡ sets (aside n ws) (n * 6 + m * 6) vs
unfolding aside
aside_sets zero m ws vs = refl
aside_sets (suc n) m ws vs =
    let e : suc n * 6 + m * 6 ≡ n * 6 + suc m * 6 = omega arith in
    ap (λ (i : ℕ). slice_set (aside n (sets ws i vs)) (n * 6 + 1) 0) e
    ∙ ap (λ (l : List ℕ). slice_set l (n * 6 + 1) 0) (aside_sets n (suc m) ws vs)
    ∙ set_sets (aside n ws) (n * 6 + suc m * 6) (n * 6 + 1) vs 0 (omega arith)
    ∙ ap (λ (i : ℕ). sets (slice_set (aside n ws) (n * 6 + 1) 0) i vs) (sym e)

-- the record with 0 in its second word
record_aside : (l : List ℕ) (i path tag : ℕ) (p q : Vec2) → slice_set (sets l i (record_of path tag p q)) (i + 1) 0 ≡ sets l i (record_of path 0 p q)
record_aside l i path tag p q =
    let rest = to_bits binary32 p.x ∷ to_bits binary32 p.y ∷ to_bits binary32 q.x ∷ to_bits binary32 q.y ∷ [] in
    ap (λ (j : ℕ). slice_set (sets l i (record_of path tag p q)) j 0) (add-one i)
    ∙ set_sets (slice_set (slice_set l i path) (suc i) tag) (suc (suc i)) (suc i) rest 0 (omega arith)
    ∙ ap (λ (m : List ℕ). sets m (suc (suc i)) rest) (set-set (slice_set l i path) (suc i) tag 0)

stored_aside : (n path tag : ℕ) (p q : Vec2) (ws : List ℕ) → sets (aside n ws) (n * 6) (record_of path 0 p q) ≡ aside (n + 1) (sets ws (n * 6) (record_of path tag p q))
unfolding aside
stored_aside n path tag p q ws =
    let e : n * 6 + 0 * 6 ≡ n * 6 = omega arith in
    sym (ap (λ (m : ℕ). aside m (sets ws (n * 6) (record_of path tag p q))) (add-one n)
    ∙ ap (λ (l : List ℕ). slice_set l (n * 6 + 1) 0) (rw e at (aside_sets n 0 ws (record_of path tag p q)))
    ∙ record_aside (aside n ws) (n * 6) path tag p q)

aside_length : (n : ℕ) (ws : List ℕ) → length (aside n ws) ≡ length ws
unfolding aside
aside_length zero ws = refl
aside_length (suc n) ws = length-set (aside n ws) (n * 6 + 1) 0 ∙ aside_length n ws

-- ---- a drawing
plain_pen : Pen → Pen
plain_pen pen = record { count = pen.count; tag = 0; bbox = pen.bbox }

plain : Drawn → Drawn
plain (Ok pen) = Ok (plain_pen pen)
plain (Err s) = Err s

plain_sheet : Sheet → Sheet
plain_sheet s = sheet (aside (count_of s.drawn) s.words) (plain s.drawn)

same_room : (n : ℕ) (ws : List ℕ) → has_room (aside n ws) n ≡ has_room ws n
unfolding has_room
same_room n ws = rw (aside_length n ws)

line_plain : (s t u : Bool) (path : ℕ) (ws : List ℕ) (pen : Pen) (p q : Vec2)
    → stored s t u path (aside pen.count ws) (plain_pen pen) p q ≡ plain_sheet (stored s t u path ws pen p q)
unfolding stored plain_sheet plain plain_pen
line_plain true t u path ws pen p q = refl
line_plain false true u path ws pen p q = refl
line_plain false false false path ws pen p q = refl
line_plain false false true path ws pen p q = ap (λ (l : List ℕ). sheet l (Ok (pen_behind (plain_pen pen) p q))) (stored_aside pen.count path pen.tag p q ws)

draw_plain : (path : ℕ) (ws : List ℕ) (d : Drawn) (e : Event) → draw path (aside (count_of d) ws) (plain d) e ≡ plain_sheet (draw path ws d e)
unfolding draw draw_on plain_sheet plain plain_pen
draw_plain path ws (Ok pen) (line p q) =
    ap (λ (u : Bool). stored (has_nan p) (has_nan q) u path (aside pen.count ws) (plain_pen pen) p q) (same_room pen.count ws)
    ∙ line_plain (has_nan p) (has_nan q) (has_room ws pen.count) path ws pen p q
draw_plain path ws (Ok pen) no_count = refl
draw_plain path ws (Ok pen) no_join = refl
draw_plain path ws (Err s) e = refl

all_plain : (path : ℕ) (s : Sheet) (es : List Event) → draw_all path (plain_sheet s) es ≡ plain_sheet (draw_all path s es)
unfolding draw_all plain_sheet
all_plain path s [] = refl
all_plain path s (e ∷ es) = ap (λ (x : Sheet). draw_all path x es) (draw_plain path s.words s.drawn e) ∙ all_plain path (draw path s.words s.drawn e) es

-- ---- a tag
plain_step : Stepped → Stepped
plain_step o = stepped o.turn (aside o.turn.count o.lines)

turn_plain : (t : Turn) (h : Head) (d : Drawn) → turn_of t h (plain d) ≡ turn_of t h d
unfolding turn_of plain plain_pen
turn_plain t h (Ok pen) = refl
turn_plain t h (Err s) = refl

behind_plain : (t : Turn) (h : Head) (s : Sheet) → behind t h (plain_sheet s) ≡ plain_step (behind t h s)
unfolding plain_sheet plain_step
behind_plain t h s =
    ap (λ (u : Turn). stepped u (aside (count_of s.drawn) s.words)) (turn_plain t h s.drawn)
    ∙ ap (λ (n : ℕ). stepped (turn_of t h s.drawn) (aside n s.words)) (end_count t h s.drawn)

drawn_plain : (path : ℕ) (t : Turn) (ws : List ℕ) (r : Read (List Event))
    → drawn_of path (fresh_pen no_word t) (aside t.count ws) r ≡ plain_sheet (drawn_of path (fresh_pen tag_word t) ws r)
unfolding drawn_of plain_sheet plain plain_pen
drawn_plain path t ws (Ok es) = all_plain path (sheet ws (Ok (fresh_pen tag_word t))) es
drawn_plain path t ws (Err why) = refl

module _ (layout : Layout) (scene prefixes : List ℕ) where
  head_plain : (r : Read Head) (ws : List ℕ) (t : Turn) → step_from_by no_word r layout scene prefixes (aside t.count ws) t ≡ plain_step (step_from_by tag_word r layout scene prefixes ws t)
  unfolding step_from_by refused_at plain_step
  head_plain (Ok h) ws t =
      let path = h.tag.monoid.path_ix in
      let r = events_at layout scene prefixes t.tag h in
      ap (behind t h) (drawn_plain path t ws r) ∙ behind_plain t h (drawn_of path (fresh_pen tag_word t) ws r)
  head_plain (Err why) ws t = refl

  step_plain : (ws : List ℕ) (n : ℕ) (t : Turn) → step_by no_word layout scene prefixes (aside t.count ws) n t ≡ plain_step (step_by tag_word layout scene prefixes ws n t)
  unfolding step_by
  step_plain ws n t = head_plain (head_at layout scene prefixes n t.tag) ws t

  -- ---- the tags one after the other
  plain_state : State → State
  plain_state s = record { turn = s.turn; boxes = s.boxes; lines = aside s.turn.count s.lines }

  onward_plain : (b : Bool) (s : State) → onward_by no_word b layout scene prefixes (plain_state s) ≡ plain_state (onward_by tag_word b layout scene prefixes s)
  unfolding onward_by plain_state taken plain_step
  onward_plain true s = ap (taken s.boxes) (step_plain s.lines (length s.boxes) s.turn)
  onward_plain false s = refl

  after_plain : (n : ℕ) (s : State) → after_by no_word n layout scene prefixes (plain_state s) ≡ plain_state (after_by tag_word n layout scene prefixes s)
  unfolding after_by plain_state
  after_plain zero s = refl
  after_plain (suc n) s =
      let u = after_by tag_word n layout scene prefixes s in
      ap (next_by no_word layout scene prefixes) (after_plain n s) ∙ onward_plain (nat_lt 0 u.turn.left) u

  start_plain : (b : Bool) (ps : List PathBox) (ws : List ℕ) → plain_state (record { turn = start_at b layout; boxes = ps; lines = ws }) ≡ record { turn = start_at b layout; boxes = ps; lines = ws }
  unfolding plain_state aside
  start_plain b ps ws = ap (λ (n : ℕ). record { turn = start_at b layout; boxes = ps; lines = aside n ws }) (start_count b layout)

  outcome_plain : (s : State) → outcome_of (plain_state s) ≡ set_aside (outcome_of s)
  unfolding plain_state answer_of
  outcome_plain s =
      let t = s.turn in
      ap (λ (n : ℕ). outcome (told_of (answer_of t)) s.boxes (aside n s.lines)) (sym (tells t.stop t.tag t.count))

-- with the second word of each record stored set aside, the call is the scope paper's
pub set_aside_lem : (layout : Layout) (scene prefixes : List ℕ) (ps : List PathBox) (ws : List ℕ) → plain_call_of layout scene prefixes ps ws ≡ set_aside (call_of layout scene prefixes ps ws)
unfolding call_by start_of
set_aside_lem layout scene prefixes ps ws =
    let b = nat_lt (length scene) layout.tag_base || ltb (length scene) layout.data_base in
    let s : State = record { turn = start_at b layout; boxes = ps; lines = ws } in
    let n = layout.n_wg * 256 in
    ap (λ (u : State). outcome_of (after_by no_word n layout scene prefixes u)) (sym (start_plain layout scene prefixes b ps ws))
    ∙ ap outcome_of (after_plain layout scene prefixes n s)
    ∙ outcome_plain layout scene prefixes (after_by tag_word n layout scene prefixes s)
