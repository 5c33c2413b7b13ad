-- The second word of every record is the index of the tag that was in turn when it was stored. Assumes nothing.
use Rattle.std.specs.Prelude.{◌≡◌, ℕ, zero, suc, ◌+◌, ◌-◌, ◌*◌, ◌%◌, ◌^◌, ◌<◌, ◌≤◌, Bool, true, false, ◌||◌, ◌⊎◌, List, [], ◌∷◌, ◌++◌, length, take, drop, nat_lt, slice_index, slice_index_or, Ok, Err}
use Rattle.std.proofs.Math.Path.{refl, subst}
use Rattle.std.proofs.Common.{sym, ap, ◌∙◌, arith, ltb-true, ltb-false, length-append, get_or-append-add, get_or-take, length-take-le}
use Rattle.std.proofs.Math.Logic.{inl, inr, ⊎_elim}
use Rattle.std.proofs.Math.ListN.{get_or-append}
use Rattle.refusals.specs.Refusals.{Read}
use Rattle.drawing.specs.Sheet.{Event, line, no_count, no_join, Drawn}
use Rattle.drawing.specs.Stands.{records_of, Stands}
use Rattle.flatten.specs.Tag.{head_at, events_at}
use Rattle.flatten.specs.Step.{tag_word, drawn_of, fresh_pen, turn_of, refused_at, step_from_by, step_by, step_of}
use Rattle.flatten.specs.Call.{first_turn, start_at, start_of, State, taken, next, after, after_by, answer_of, call_by, call_of}
use Rattle.flatten.specs.CallLaws.{moves, at_rest, one_more_lem}
use Rattle.flatten.specs.Refusals.{tells, start_count}
use Rattle.flatten.specs.Stands.{step_grows}
use Rattle.flatten.specs.Whose.{count_after, Whose}
use Rattle.flatten.specs.declared.boxes.PathBox.{PathBox}
use Rattle.flatten.specs.declared.call.Layout.{Layout}
use Rattle.flatten.specs.declared.call.Turn.{Turn}
use Rattle.flatten.specs.declared.tag.Head.{Head}

-- ---- the words of a drawing
second : (path tag k j : ℕ) (es : List Event) → length (records_of path tag k es) ≡ k * 6 → j < k → slice_index (records_of path tag k es) (j * 6 + 1) ≡ tag
unfolding records_of
second path tag zero j es h l = absurd (omega arith)
second path tag (suc k) j [] h l = absurd (omega arith)
second path tag (suc k) zero (line p q ∷ es) h l = refl
second path tag (suc k) (suc j) (line p q ∷ es) h l =
    let e : suc j * 6 + 1 ≡ suc (suc (suc (suc (suc (suc (j * 6 + 1)))))) = omega arith in
    ap (λ (i : ℕ). slice_index (records_of path tag (suc k) (line p q ∷ es)) i) e ∙ second path tag k j es (omega arith) (omega arith)
second path tag (suc k) j (no_count ∷ es) h l = absurd (omega arith)
second path tag (suc k) j (no_join ∷ es) h l = absurd (omega arith)

module _ {path tag : ℕ} {es : List Event} {ws : List ℕ} {n : ℕ} {ws' : List ℕ} {n' : ℕ} (s : Stands path tag es ws n ws' n') (room : n * 6 ≤ length ws) where
  abbrev new : List ℕ
  new = records_of path tag s.more es

  front : length (take (n * 6) ws) ≡ n * 6
  front = length-take-le (n * 6) ws room

  head : length (take (n * 6) ws ++ new) ≡ n' * 6
  head = omega (arith, length-append (take (n * 6) ws) new, front, s.whole, s.count)

  still_room : n' * 6 ≤ length ws'
  still_room = omega (arith, ap length s.words, length-append (take (n * 6) ws ++ new) (drop (n' * 6) ws), head)

  in_head : (i : ℕ) → i < n' * 6 → slice_index ws' i ≡ slice_index (take (n * 6) ws ++ new) i
  in_head i l = ap (λ (l : List ℕ). slice_index l i) s.words ∙ get_or-append (take (n * 6) ws ++ new) (drop (n' * 6) ws) 0 i (omega (arith, head))

  -- the records before keep theirs
  kept : (k : ℕ) → k < n → slice_index ws' (k * 6 + 1) ≡ slice_index ws (k * 6 + 1)
  kept k l =
      in_head (k * 6 + 1) (omega (arith, s.count))
      ∙ get_or-append (take (n * 6) ws) new 0 (k * 6 + 1) (omega (arith, front))
      ∙ get_or-take (n * 6) ws (k * 6 + 1) 0 (omega arith)

  -- the new ones have the tag
  fresh : (k : ℕ) → n ≤ k → k < n' → slice_index ws' (k * 6 + 1) ≡ tag
  fresh k h l =
      let e : k * 6 + 1 ≡ length (take (n * 6) ws) + ((k - n) * 6 + 1) = omega (arith, front) in
      in_head (k * 6 + 1) (omega arith)
      ∙ ap (λ (i : ℕ). slice_index (take (n * 6) ws ++ new) i) e
      ∙ get_or-append-add (take (n * 6) ws) new ((k - n) * 6 + 1) 0
      ∙ second path tag s.more (k - n) es s.whole (omega (arith, s.count))

-- ---- the tag in turn
start_tag : (b : Bool) (layout : Layout) → (start_at b layout).tag ≡ 0
unfolding first_turn
start_tag true layout = refl
start_tag false layout = refl

before_or_from : (n k : ℕ) (t : Bool) → nat_lt k n ≡ t → (k < n) ⊎ (n ≤ k)
before_or_from n k true e = inl (ltb-true k n e)
before_or_from n k false e = inr (ltb-false k n e)

-- no tag is left, or the next one is in turn
abbrev Next : Turn → Turn → Type 0
Next t u = (u.left ≡ 0) ⊎ (u.tag ≡ (t.tag + 1) % 2 ^ 64)

turn_next : (t : Turn) (h : Head) (d : Drawn) → Next t (turn_of t h d)
unfolding turn_of
turn_next t h (Ok pen) = inr refl
turn_next t h (Err s) = inl refl

module _ (layout : Layout) (scene prefixes : List ℕ) where
  head_next : (r : Read Head) (ws : List ℕ) (t : Turn) → Next t (step_from_by tag_word r layout scene prefixes ws t).turn
  unfolding step_from_by refused_at
  head_next (Ok h) ws t = turn_next t h (drawn_of h.tag.monoid.path_ix (fresh_pen tag_word t) ws (events_at layout scene prefixes t.tag h)).drawn
  head_next (Err why) ws t = inl refl

  step_next : (ws : List ℕ) (n : ℕ) (t : Turn) → Next t (step_of layout scene prefixes ws n t).turn
  unfolding step_by
  step_next ws n t = head_next (head_at layout scene prefixes n t.tag) ws t

  module _ (ps : List PathBox) (ws : List ℕ) where
    abbrev pub start : State
    start = record { turn = start_of layout (length scene); boxes = ps; lines = ws }

    abbrev pub done : ℕ → State
    done m = after m layout scene prefixes start

    abbrev counted : ℕ → ℕ
    counted = count_after layout scene prefixes ps ws

    -- record k of a state was stored by one of the first m tags
    record Found (m : ℕ) (s : State) (k : ℕ) : Type 0 where
      tag : ℕ
      in_call : tag < m
      not_before : counted tag ≤ k
      by_then : k < counted (suc tag)
      told : slice_index_or s.lines (k * 6 + 1) 0 ≡ tag % 2 ^ 32

    pub record After (m : ℕ) (s : State) : Type 0 where
      room : s.turn.count * 6 ≤ length s.lines
      pub turn : (s.turn.left ≡ 0) ⊎ (s.turn.tag ≡ m % 2 ^ 64)
      found : (k : ℕ) → k < s.turn.count → Found m s k

    longer : (m : ℕ) (s u : State) (k : ℕ) → slice_index u.lines (k * 6 + 1) ≡ slice_index s.lines (k * 6 + 1) → Found m s k → Found (suc m) u k
    longer m s u k e f = record { tag = f.tag; in_call = omega (arith, f.in_call); not_before = f.not_before; by_then = f.by_then; told = e ∙ f.told }

    its_word : (m tag : ℕ) → tag ≡ m % 2 ^ 64 → tag_word tag ≡ m % 2 ^ 32
    its_word m tag e = omega arith

    its_next : (m tag tag' : ℕ) → tag ≡ m % 2 ^ 64 → tag' ≡ (tag + 1) % 2 ^ 64 → tag' ≡ suc m % 2 ^ 64
    its_next m tag tag' e h = omega arith

    tag_moves : (m : ℕ) (s : State) → done m ≡ s → done (suc m) ≡ taken s.boxes (step_of layout scene prefixes s.lines (length s.boxes) s.turn) → s.turn.tag ≡ m % 2 ^ 64 → After m s
        → After (suc m) (taken s.boxes (step_of layout scene prefixes s.lines (length s.boxes) s.turn))
    unfolding taken
    tag_moves m s is then in_turn a =
        let o = step_of layout scene prefixes s.lines (length s.boxes) s.turn in
        let g = step_grows layout scene prefixes s.lines (length s.boxes) s.turn in
        record {
          room = still_room g.drew a.room;
          turn = ⊎_elim inl (λ e. inr (its_next m s.turn.tag o.turn.tag in_turn e)) (step_next s.lines (length s.boxes) s.turn);
          found = λ k l. ⊎_elim
              (λ h. longer m s (taken s.boxes o) k (kept g.drew a.room k h) (a.found k h))
              (λ h. record {
                tag = m;
                in_call = omega arith;
                not_before = subst (λ (x : State). x.turn.count ≤ k) (sym is) h;
                by_then = subst (λ (x : State). k < x.turn.count) (sym then) l;
                told = fresh g.drew a.room k h l ∙ its_word m s.turn.tag in_turn;
              })
              (before_or_from s.turn.count k (nat_lt k s.turn.count) refl);
        }

    -- where no tag is left, the state stays
    rests : (m : ℕ) (s : State) → s.turn.left ≡ 0 → After m s → After (suc m) s
    rests m s e a = record { room = a.room; turn = inl e; found = λ k l. longer m s s k refl (a.found k l) }

    after_next : (m : ℕ) (b : Bool) → nat_lt 0 (done m).turn.left ≡ b → After m (done m) → After (suc m) (next layout scene prefixes (done m))
    after_next m true e a =
        let s = done m in
        rw (moves layout scene prefixes s e)
        (tag_moves m s refl (one_more_lem layout scene prefixes m start ∙ moves layout scene prefixes s e) (⊎_elim (λ z. absurd (omega (arith, ltb-true 0 s.turn.left e))) (λ h. h) a.turn) a)
    after_next m false e a =
        let s = done m in
        rw (at_rest layout scene prefixes s e) (rests m s (omega (arith, ltb-false 0 s.turn.left e)) a)

    after_start : (b : Bool) → After 0 (record { turn = start_at b layout; boxes = ps; lines = ws })
    after_start b =
        record {
          room = rw (start_count b layout) (omega arith);
          turn = inr (start_tag b layout);
          found = λ k l. absurd (omega (arith, start_count b layout));
        }

    pub after_all : (m : ℕ) → After m (done m)
    unfolding after_by start_of
    after_all zero = after_start (nat_lt (length scene) layout.tag_base || nat_lt (length scene) layout.data_base)
    after_all (suc m) = after_next m (nat_lt 0 (done m).turn.left) refl (after_all m)

-- every record tells the tag that was in turn when it was stored
pub which_tag : (layout : Layout) (scene prefixes : List ℕ) (ps : List PathBox) (ws : List ℕ) (k : ℕ) → k < (call_of layout scene prefixes ps ws).answer.count → Whose layout scene prefixes ps ws k
unfolding call_by answer_of
which_tag layout scene prefixes ps ws k l =
    let n = layout.n_wg * 256 in
    let t = (done layout scene prefixes ps ws n).turn in
    let f = (after_all layout scene prefixes ps ws n).found k (rw (tells t.stop t.tag t.count) at l) in
    record { tag = f.tag; in_call = f.in_call; not_before = f.not_before; by_then = f.by_then; told = f.told }
