-- Equal events give equal calls: where two calls read alike at every tag that gets its turn, they have the same outcome. Assumes nothing.
use Rattle.std.specs.Prelude.{◌≡◌, ℕ, zero, suc, ◌*◌, ◌<◌, Bool, true, false, List, length, nat_lt, Ok, Err}
use Rattle.std.proofs.Math.Path.{refl, ap}
use Rattle.std.proofs.Common.{sym, ◌∙◌, arith}
use Rattle.refusals.specs.Refusals.{Read}
use Rattle.refusals.specs.declared.Refusal.{Refusal}
use Rattle.drawing.specs.Sheet.{Event, Sheet, Drawn}
use Rattle.drawing.specs.declared.line.Pen.{Pen}
use Rattle.flatten.specs.Tag.{is_path, head_at, events_at}
use Rattle.flatten.specs.Step.{tag_word, drawn_of, fresh_pen, turn_of, change_of, behind, stepped, step_from_by, step_by, step_of}
use Rattle.flatten.specs.Call.{State, taken, next, after, after_by, start_of, outcome_of, call_by, call_of}
use Rattle.flatten.specs.CallLaws.{moves, at_rest}
use Rattle.flatten.specs.declared.boxes.PathBox.{PathBox}
use Rattle.flatten.specs.declared.call.Layout.{Layout}
use Rattle.flatten.specs.declared.call.Turn.{Turn}
use Rattle.flatten.specs.declared.tag.Head.{Head}

-- two heads that leave the same in lines and boxes
pub record SameHead (h h' : Head) : Type 0 where
  pub path : h.tag.monoid.path_ix ≡ h'.tag.monoid.path_ix
  pub transform : h.tag.monoid.trans_ix ≡ h'.tag.monoid.trans_ix
  pub flags : h.flags ≡ h'.flags
  pub mark : is_path h ≡ is_path h'

turn_same : (t : Turn) (h h' : Head) → SameHead h h' → (d : Drawn) → turn_of t h d ≡ turn_of t h' d
unfolding turn_of change_of
turn_same t h h' s (Ok pen) = rw (s.path, s.transform, s.flags, s.mark)
turn_same t h h' s (Err d) = rw (s.path, s.transform, s.flags, s.mark)

behind_same : (t : Turn) (h h' : Head) → SameHead h h' → (o : Sheet) → behind t h o ≡ behind t h' o
behind_same t h h' s o = ap (λ (u : Turn). stepped u o.words) (turn_same t h h' s o.drawn)

drawn_same : (ws : List ℕ) (pen : Pen) {path path' : ℕ} {r r' : Read (List Event)} → path ≡ path' → r ≡ r' → drawn_of path pen ws r ≡ drawn_of path' pen ws r'
drawn_same ws pen p q = cc

-- what is read of a call's scene
module _ (layout : Layout) (scene prefixes : List ℕ) (layout' : Layout) (scene' prefixes' : List ℕ) where
  -- at a tag both calls are refused for the same reason at its head, or both heads are found, the heads are alike, and what they draw is the same or is refused for the same reason
  pub data SameAt (n ix : ℕ) : Type 0 where
    no_head : (why : Refusal) → head_at layout scene prefixes n ix ≡ Err why → head_at layout' scene' prefixes' n ix ≡ Err why → SameAt n ix
    heads : (h h' : Head) → head_at layout scene prefixes n ix ≡ Ok h → head_at layout' scene' prefixes' n ix ≡ Ok h' → SameHead h h'
        → events_at layout scene prefixes ix h ≡ events_at layout' scene' prefixes' ix h' → SameAt n ix

  same_step : (ws : List ℕ) (n : ℕ) (t : Turn) → SameAt n t.tag → step_of layout scene prefixes ws n t ≡ step_of layout' scene' prefixes' ws n t
  unfolding step_by step_from_by
  same_step ws n t (no_head why e e') = rw (e, e')
  same_step ws n t (heads h h' e e' s d) =
      rw (e, e')
      (behind_same t h h' s (drawn_of h.tag.monoid.path_ix (fresh_pen tag_word t) ws (events_at layout scene prefixes t.tag h))
      ∙ ap (behind t h') (drawn_same ws (fresh_pen tag_word t) s.path d))

  by_test : (s : State) (t : Bool) → nat_lt 0 s.turn.left ≡ t → (t ≡ true → SameAt (length s.boxes) s.turn.tag) → next layout scene prefixes s ≡ next layout' scene' prefixes' s
  by_test s true e q =
      moves layout scene prefixes s e ∙ ap (taken s.boxes) (same_step s.lines (length s.boxes) s.turn (q refl)) ∙ sym (moves layout' scene' prefixes' s e)
  by_test s false e q = at_rest layout scene prefixes s e ∙ sym (at_rest layout' scene' prefixes' s e)

  -- a tag gets its turn where the call stands at it and tags are left
  abbrev pub SameTurns : State → ℕ → Type 0
  SameTurns s n = (k : ℕ) → k < n → nat_lt 0 (after k layout scene prefixes s).turn.left ≡ true
      → SameAt (length (after k layout scene prefixes s).boxes) (after k layout scene prefixes s).turn.tag

  -- where both read alike at each tag that gets its turn, both stand alike afterwards
  pub same_after : (s : State) (n : ℕ) → SameTurns s n → after n layout scene prefixes s ≡ after n layout' scene' prefixes' s
  unfolding after_by
  same_after s zero f = refl
  same_after s (suc n) f =
      let t = after n layout scene prefixes s in
      by_test t (nat_lt 0 t.turn.left) refl (f n (omega arith)) ∙ ap (next layout' scene' prefixes') (same_after s n (λ k h. f k (omega arith)))

  abbrev pub entry : List PathBox → List ℕ → State
  entry ps ws = record { turn = start_of layout (length scene); boxes = ps; lines = ws }

  -- as many workgroups, the same start, and the same read at each tag that gets its turn: the same answer, boxes and lines
  pub same_events : (ps : List PathBox) (ws : List ℕ) → layout.n_wg ≡ layout'.n_wg → start_of layout (length scene) ≡ start_of layout' (length scene')
      → SameTurns (entry ps ws) (layout.n_wg * 256) → call_of layout scene prefixes ps ws ≡ call_of layout' scene' prefixes' ps ws
  unfolding call_by
  same_events ps ws n b f =
      ap outcome_of (same_after (entry ps ws) (layout.n_wg * 256) f)
      ∙ ap (λ (k : ℕ). outcome_of (after (k * 256) layout' scene' prefixes' (entry ps ws))) n
      ∙ ap (λ (t : Turn). outcome_of (after (layout'.n_wg * 256) layout' scene' prefixes' (record { turn = t; boxes = ps; lines = ws }))) b
