-- What holds of the call, whatever one tag does: the laws of the fold. Assumes nothing.
use Rattle.std.specs.Prelude.{◌≡◌, ℕ, zero, suc, ◌+◌, ◌*◌, Bool, true, false, ◌||◌, ltb, List, length, nat_lt, Some}
use Rattle.std.proofs.Math.Path.{refl}
use Rattle.std.proofs.Common.{sym, ap, ◌∙◌, arith}
use Rattle.refusals.specs.Refusals.{number_of, end_of}
use Rattle.refusals.specs.declared.Refusal.TheVariants.{BadBase}
use Rattle.flatten.specs.Step.{step_of}
use Rattle.flatten.specs.Call.{first_turn, start_at, start_of, State, taken, next, after, answer_of, said, told_of, outcome, outcome_of, call_of, after_by, call_by, onward_by}
use Rattle.flatten.specs.declared.boxes.PathBox.{PathBox}
use Rattle.flatten.specs.declared.call.Layout.{Layout}
use Rattle.flatten.specs.declared.call.Turn.{Turn}

module _ (layout : Layout) (scene prefixes : List ℕ) where
  abbrev tag : State → State
  tag s = taken s.boxes (step_of layout scene prefixes s.lines (length s.boxes) s.turn)

  pub moves : (s : State) → nat_lt 0 s.turn.left ≡ true → next layout scene prefixes s ≡ tag s
  unfolding onward_by
  moves s e = rw e

  pub at_rest : (s : State) → nat_lt 0 s.turn.left ≡ false → next layout scene prefixes s ≡ s
  unfolding onward_by
  at_rest s e = rw e

  pub one_more_lem : (n : ℕ) (s : State) → after (suc n) layout scene prefixes s ≡ next layout scene prefixes (after n layout scene prefixes s)
  unfolding after_by
  one_more_lem n s = refl

  -- where no tag is left, more turns change nothing
  pub stays : (k d : ℕ) (s : State) → nat_lt 0 (after d layout scene prefixes s).turn.left ≡ false → after (k + d) layout scene prefixes s ≡ after d layout scene prefixes s
  stays zero d s e = let h : zero + d ≡ d = omega arith in ap (λ (m : ℕ). after m layout scene prefixes s) h
  stays (suc k) d s e =
      let h : suc k + d ≡ suc (k + d) = omega arith in
      ap (λ (m : ℕ). after m layout scene prefixes s) h ∙ one_more_lem (k + d) s ∙ ap (next layout scene prefixes) (stays k d s e) ∙ at_rest (after d layout scene prefixes s) e

  by_test : (P : State → Type 0) (s : State) (t : Bool) → nat_lt 0 s.turn.left ≡ t → P s → (t ≡ true → P (tag s)) → P (next layout scene prefixes s)
  by_test P s true e p q = rw (moves s e) (q refl)
  by_test P s false e p q = rw (at_rest s e) p

  -- what holds at the start, and after each tag if before it, holds at the end
  pub carried : (P : State → Type 0) → ((s : State) → nat_lt 0 s.turn.left ≡ true → P s → P (tag s)) → (n : ℕ) (s : State) → P s → P (after n layout scene prefixes s)
  unfolding after_by
  carried P go zero s p = p
  carried P go (suc n) s p =
      let t = after n layout scene prefixes s in
      let q : P t = carried P go n s p in
      by_test P t (nat_lt 0 t.turn.left) refl q (λ e. go t e q)

-- ---- refusal 1

-- a base past the scene's end is refused, and nothing is written
pub bad_base : (layout : Layout) (scene prefixes : List ℕ) (ps : List PathBox) (ws : List ℕ) → nat_lt (length scene) layout.tag_base || nat_lt (length scene) layout.data_base ≡ true
    → call_of layout scene prefixes ps ws ≡ outcome (said 1 0 0) ps ws
unfolding start_of first_turn answer_of told_of number_of end_of call_by after_by
bad_base layout scene prefixes ps ws past =
    let t = start_of layout (length scene) in
    let none : t ≡ first_turn 0 (Some BadBase) = ap (λ (b : Bool). start_at b layout) past in
    let m = layout.n_wg * 256 in
    let h : m + 0 ≡ m = omega arith in
    ap (λ (k : ℕ). outcome_of (after k layout scene prefixes (record { turn = t; boxes = ps; lines = ws }))) (sym h)
    ∙ ap outcome_of (stays layout scene prefixes m 0 (record { turn = t; boxes = ps; lines = ws }) (ap (λ (u : Turn). ltb 0 u.left) none))
    ∙ ap (λ (u : Turn). outcome_of (record { turn = u; boxes = ps; lines = ws })) none
