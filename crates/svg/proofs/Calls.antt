-- What the calls of a function come to together. Assumes nothing.
use mathlib.Core.Path.{◌≡◌, sym, ap, ◌∙◌}
use mathlib.Core.Logic.{◌⊎◌, inl, inr}
use mathlib.Core.Bool.{Bool, true, false}
use mathlib.Core.List.{List, [], ◌∷◌}
use Prim.Native.Nat.{ℕ}
use lib.Dec.{eqb}
use Rattle.std.specs.Prelude.{Result, Ok, Err, IsErrAnd}
use Rattle.pattern.specs.Commands.{Command, move, Answer, Outcome, outcome, number_of}
use Rattle.pattern.specs.Commands.{command_of as drawn}
use Rattle.pattern.specs.Meaning.{next}
use Rattle.pattern.specs.Encoded.{not_zero}
use Rattle.pattern.specs.declared.pen.Pen.{Pen}
use Rattle.pattern.specs.declared.pen.Fault.{Fault}
use Rattle.svg.specs.declared.hand.Hand.{Hand}
use Rattle.svg.specs.Language.{pick}
use Rattle.svg.specs.Meaning.{all_of}
use Rattle.svg.specs.Hands.{six_command, restarts_by, command_by}
use Rattle.svg.proofs.Reading.{pick_yes, pick_no}

-- a refusal that is passed on
pub passed_on : {T E : Type 0} (r : Result T E) (e : E) → IsErrAnd r (λ d. d ≡ e) → r ≡ Err e
passed_on (Ok x) e h = absurd h
passed_on (Err d) e h = ap Err h

-- ---- a full group

module _ (h : Hand) (pen : Pen) (tags points : List ℕ) where
  abbrev group : Command
  group = six_command h.kind h.six

  by_restart : (t : Bool) → restarts_by h.kind h.shut ≡ t
      → all_of (outcome (Ok tt) pen tags points) (pick t (move h.home ∷ group ∷ []) (group ∷ [])) ≡ command_by h pen tags points
  unfolding command_by
  by_restart t e = ap (λ (t : Bool). all_of (outcome (Ok tt) pen tags points) (pick t (move h.home ∷ group ∷ []) (group ∷ []))) (sym e)

  pub restart_refused : (f : Fault) (o : Outcome) → restarts_by h.kind h.shut ≡ true → o ≡ drawn pen (move h.home) tags points → o.answer ≡ Err f → o ≡ command_by h pen tags points
  unfolding all_of number_of
  restart_refused f o e g z =
      g ∙ sym (pick_no _ _ _ (ap (λ (o : Outcome). eqb (number_of o.answer) 0) (sym g) ∙ ap (λ (a : Answer). eqb (number_of a) 0) z ∙ not_zero f)) ∙ by_restart true e

  -- where the pen stands before the group's own command: behind the move, or where it stood
  pub group_drawn : (o q : Outcome)
      → ((restarts_by h.kind h.shut ≡ true) × (o.answer ≡ Ok tt) × (o ≡ drawn pen (move h.home) tags points)) ⊎ ((restarts_by h.kind h.shut ≡ false) × (o ≡ outcome (Ok tt) pen tags points))
      → q ≡ next o group → q ≡ command_by h pen tags points
  unfolding all_of number_of
  group_drawn o q (inl (e, z, f)) g =
      g ∙ ap (λ (o : Outcome). next o group) f
      ∙ sym (pick_yes _ _ _ (ap (λ (o : Outcome). eqb (number_of o.answer) 0) (sym f) ∙ ap (λ (a : Answer). eqb (number_of a) 0) z)) ∙ by_restart true e
  group_drawn o q (inr (e, f)) g = g ∙ ap (λ (o : Outcome). next o group) f ∙ by_restart false e
