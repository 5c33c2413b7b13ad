-- A call that is refused by 9 stored no line of the tag whose transform it is. Assumes nothing.
use Rattle.std.specs.Prelude.{◌≡◌, ℕ, zero, suc, ◌*◌, ◌%◌, ◌^◌, ◌<◌, ◌≤◌, Bool, true, false, ◌||◌, ◌⊎◌, List, length, ◌≢◌, nat_lt, Ok, Err, Option, Some, None}
use Rattle.std.proofs.Math.Path.{refl}
use Rattle.std.proofs.Common.{◌∙◌, inl, inr, ⊎_elim, ltb-true}
use native.Mathlib.Omega.{arith}
use Rattle.refusals.specs.declared.Refusal.{Refusal}
use Rattle.refusals.specs.Refusals.{number_of, Read}
use Rattle.drawing.specs.Sheet.{Event}
use Rattle.flatten.specs.Tag.{head_at, events_at}
use Rattle.flatten.specs.Step.{drawn_of, fresh_pen, turn_of, refused_at, behind, Stepped, tag_word, step_from_by, step_by, step_of}
use Rattle.flatten.specs.Call.{first_turn, start_at, start_of, State, taken, next, after_by, answer_for, answer_of, told_of, call_by, call_of}
use Rattle.flatten.specs.CallLaws.{moves, at_rest}
use Rattle.flatten.specs.Refusals.{drawing_late, tells}
use Rattle.flatten.specs.Whose.{StoredNone}
use Rattle.flatten.specs.WhoseLaws.{done, after_all}
use Rattle.flatten.specs.declared.boxes.PathBox.{PathBox}
use Rattle.flatten.specs.declared.call.Layout.{Layout}
use Rattle.flatten.specs.declared.call.Turn.{Turn}
use Rattle.flatten.specs.declared.tag.Head.{Head}

-- ---- one tag

abbrev number_at : Turn → ℕ
number_at t = (told_of (answer_of t)).number

-- the tag stays in turn, and nothing is stored
record Idle (t : Turn) (ws : List ℕ) (o : Stepped) : Type 0 where
  count : o.turn.count ≡ t.count
  tag : o.turn.tag ≡ t.tag
  lines : o.lines ≡ ws

not_drawn : (n : ℕ) → n ≡ 9 → (n ≡ 0) ⊎ ((5 ≤ n) × (n ≤ 8)) → ⊥
not_drawn n e (inl h) = omega (arith, e, h)
not_drawn n e (inr h) = omega (arith, e, h.1)

drawing_idle : (t : Turn) (h : Head) (ws : List ℕ) (path : ℕ) (r : Read (List Event))
    → number_at (behind t h (drawn_of path (fresh_pen tag_word t) ws r)).turn ≡ 9 → Idle t ws (behind t h (drawn_of path (fresh_pen tag_word t) ws r))
unfolding drawn_of turn_of
drawing_idle t h ws path (Ok es) e = absurd (not_drawn 9 refl (drawing_late t h ws path es 9 e))
drawing_idle t h ws path (Err why) e = record { count = refl; tag = refl; lines = refl }

module _ (layout : Layout) (scene prefixes : List ℕ) where
  head_idle : (r : Read Head) (ws : List ℕ) (t : Turn) → number_at (step_from_by tag_word r layout scene prefixes ws t).turn ≡ 9 → Idle t ws (step_from_by tag_word r layout scene prefixes ws t)
  unfolding step_from_by refused_at
  head_idle (Ok h) ws t e = drawing_idle t h ws h.tag.monoid.path_ix (events_at layout scene prefixes t.tag h) e
  head_idle (Err why) ws t e = record { count = refl; tag = refl; lines = refl }

  step_idle : (ws : List ℕ) (n : ℕ) (t : Turn) → number_at (step_of layout scene prefixes ws n t).turn ≡ 9 → Idle t ws (step_of layout scene prefixes ws n t)
  unfolding step_by
  step_idle ws n t e = head_idle (head_at layout scene prefixes n t.tag) ws t e

  -- ---- one tag after the other

  module _ (ps : List PathBox) (ws : List ℕ) where
    abbrev then : ℕ → State
    then m = done layout scene prefixes ps ws m

    -- a state that stopped at one of the first m tags, and is as that tag found it
    record Stopped (m : ℕ) (s : State) : Type 0 where
      tag : ℕ
      in_call : tag < m
      told : s.turn.tag ≡ tag % 2 ^ 64
      count : s.turn.count ≡ (then tag).turn.count
      lines : s.lines ≡ (then tag).lines

    in_turn : (m : ℕ) → nat_lt 0 (then m).turn.left ≡ true → (then m).turn.tag ≡ m % 2 ^ 64
    in_turn m e =
        ⊎_elim (λ z. absurd (omega (arith, z, ltb-true 0 (then m).turn.left e))) (λ h. h) (after_all layout scene prefixes ps ws m).turn

    stopped_next : (m : ℕ) (b : Bool) → nat_lt 0 (then m).turn.left ≡ b → (number_at (then m).turn ≡ 9 → Stopped m (then m))
        → number_at (next layout scene prefixes (then m)).turn ≡ 9 → Stopped (suc m) (next layout scene prefixes (then m))
    unfolding taken
    stopped_next m true e so n =
        let s = then m in
        let i = step_idle s.lines (length s.boxes) s.turn (rw (moves layout scene prefixes s e) at n) in
        rw (moves layout scene prefixes s e)
        (record { tag = m; in_call = omega arith; told = i.tag ∙ in_turn m e; count = i.count; lines = i.lines })
    stopped_next m false e so n =
        let s = then m in
        let k = so (rw (at_rest layout scene prefixes s e) at n) in
        rw (at_rest layout scene prefixes s e)
        (record { tag = k.tag; in_call = omega (arith, k.in_call); told = k.told; count = k.count; lines = k.lines })

    start_not_nine : (b : Bool) → number_at (start_at b layout) ≢ 9
    unfolding first_turn answer_of told_of number_of
    start_not_nine true e = omega arith
    start_not_nine false e = omega arith

    stopped : (m : ℕ) → number_at (then m).turn ≡ 9 → Stopped m (then m)
    unfolding after_by start_of
    stopped zero n = absurd (start_not_nine (nat_lt (length scene) layout.tag_base || nat_lt (length scene) layout.data_base) n)
    stopped (suc m) n = stopped_next m (nat_lt 0 (then m).turn.left) refl (stopped m) n

-- the tag that an answer tells of a refusal is the one in turn
told_tag : (s : Option Refusal) (tag count : ℕ) → (told_of (answer_for s tag count)).number ≡ 9 → (told_of (answer_for s tag count)).tag ≡ tag
unfolding told_of
told_tag None tag count e = absurd (omega arith)
told_tag (Some why) tag count e = refl

pub nine_stores_none : (layout : Layout) (scene prefixes : List ℕ) (ps : List PathBox) (ws : List ℕ)
    → (call_of layout scene prefixes ps ws).answer.number ≡ 9 → StoredNone layout scene prefixes ps ws
unfolding call_by answer_of
nine_stores_none layout scene prefixes ps ws n =
    let m = layout.n_wg * 256 in
    let t = (done layout scene prefixes ps ws m).turn in
    let k = stopped layout scene prefixes ps ws m n in
    record {
      tag = k.tag;
      in_call = k.in_call;
      told = told_tag t.stop t.tag t.count n ∙ k.told;
      count = tells t.stop t.tag t.count ∙ k.count;
      lines = k.lines;
    }
