-- `flatten::call::flatten_main` meets its contract: each turn is the next state, and where no tag is left the state is the last. Assumes nothing.
use Rattle.std.proofs.Common.{◌≡◌, ℕ, suc, ◌+◌, ◌-◌, ◌*◌, ◌≤◌, Bool, true, false, ◌||◌, nat_lt, List, length, sym, refl, ap, ◌∙◌, arith}
use Rattle.flatten.specs.declared.boxes.PathBox.{PathBox}
use Rattle.flatten.specs.declared.call.Turn.{Turn}
use Rattle.flatten.specs.declared.call.Layout.{Layout}
use Rattle.flatten.specs.Boxes.{changed_at}
use Rattle.flatten.specs.Step.{stepped, step_of}
use Rattle.flatten.specs.Call.{State, taken, first_turn, start_at, start_of, next, after, Answer, answer_of, told_of, outcome, outcome_of, call_of, after_by, call_by}
use Rattle.flatten.specs.CallLaws.{moves, one_more_lem, stays}
use Rattle.flatten.proofs.call.flatten_main.Invariants.{starting}
use Rattle.std.proofs.lemmas.Bool.Decides.{nat_tests}
use Rattle.flatten.proofs.call.flatten_main.Goals as goal

few_tags : (bad : Bool) (layout : Layout) → (start_at bad layout).left ≤ layout.n_wg * 256
unfolding first_turn
few_tags true layout = omega arith
few_tags false layout = omega arith

at_most : (layout : Layout) (n : ℕ) (r : Turn) → r ≡ start_of layout n → r.left ≤ layout.n_wg * 256
unfolding start_of
at_most layout n r e = rw e (few_tags (nat_lt n layout.tag_base || nat_lt n layout.data_base) layout)

module _ (layout : Layout) (scene prefixes : List ℕ) (s₀ : State) where
  none_yet : s₀ ≡ after 0 layout scene prefixes s₀
  unfolding after_by
  none_yet = refl

  -- a turn: what `step` and `merge_at` say is the next state
  one_tag : (n k : ℕ) (s : State) (r : Turn) (us : List ℕ) (zs : List PathBox) → s ≡ after n layout scene prefixes s₀ → nat_lt 0 s.turn.left ≡ true → length s.boxes ≡ k
      → stepped r us ≡ step_of layout scene prefixes s.lines k s.turn → zs ≡ changed_at s.boxes r.at r.change
      → starting r zs us ≡ after (suc n) layout scene prefixes s₀
  unfolding taken
  one_tag n k s r us zs e more l e₁ e₂ =
      (λ i. starting r (e₂ i) us) ∙ ap (taken s.boxes) (e₁ ∙ ap (λ (m : ℕ). step_of layout scene prefixes s.lines m s.turn) (sym l))
      ∙ sym (moves layout scene prefixes s more) ∙ ap (next layout scene prefixes) e ∙ sym (one_more_lem layout scene prefixes n s₀)

  -- where no tag is left, that state is the last
  the_last : (n m : ℕ) (s : State) → s ≡ after n layout scene prefixes s₀ → n ≤ m → nat_lt 0 s.turn.left ≡ false → s ≡ after m layout scene prefixes s₀
  the_last n m s e few none =
      let h : (m - n) + n ≡ m = omega (arith, few) in
      e ∙ sym (stays layout scene prefixes (m - n) n s₀ (ap (λ (t : State). nat_lt 0 t.turn.left) (sym e) ∙ none)) ∙ ap (λ (k : ℕ). after k layout scene prefixes s₀) h

-- the last state is what the contract says
whole_call : (layout : Layout) (scene prefixes : List ℕ) (ps : List PathBox) (ws : List ℕ) (s : State) (r : Answer) → s ≡ after (layout.n_wg * 256) layout scene prefixes (starting (start_of layout (length scene)) ps ws)
    → r ≡ answer_of s.turn → outcome (told_of r) s.boxes s.lines ≡ call_of layout scene prefixes ps ws
unfolding call_by
whole_call layout scene prefixes ps ws s r e e₁ = ap (λ (a : Answer). outcome (told_of a) s.boxes s.lines) e₁ ∙ ap outcome_of e

pub loop-t-init : goal.loop-t-init
unfolding after_by
loop-t-init c = record { behind = 0; enough = omega (arith, at_most c.args.layout (length c.args.scene.now) c.start-t.result c.start-t.ensures); same = ap (λ (t : Turn). starting t c.args.boxes.now c.args.lines.now) c.start-t.ensures }

pub loop-t-preserved : goal.loop-t-preserved
loop-t-preserved c =
    let i = c.loop-t.invariant in
    record { behind = suc i.behind; enough = omega (arith, c.step-t.ensures.1); same = one_tag c.args.layout c.args.scene.now c.args.prefixes.now _ i.behind (length c.loop-t.boxes) (starting c.loop-t.t c.loop-t.boxes c.loop-t.lines) c.step-t.result c.step-t.new.lines c.merge_at.new.boxes i.same (grind (arith, nat_tests)) refl c.step-t.ensures.0 c.merge_at.ensures }

pub returns : goal.returns
returns c =
    let i = c.loop-t.invariant in
    let s = starting c.loop-t.t c.loop-t.boxes c.loop-t.lines in
    whole_call c.args.layout c.args.scene.now c.args.prefixes.now c.args.boxes.now c.args.lines.now s c.answered.result (the_last c.args.layout c.args.scene.now c.args.prefixes.now _ i.behind (c.args.layout.n_wg * 256) s i.same (omega (arith, i.enough)) (grind (arith, nat_tests))) c.answered.ensures
