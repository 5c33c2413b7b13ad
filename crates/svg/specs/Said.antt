-- Without its places, what a text says is what `run` finds (`run_is`). Assumes nothing.
use Rattle.std.specs.Prelude.{◌≡◌, refl, Bool, true, false, List, [], ◌∷◌, ℕ, ◌+◌}
use Rattle.std.proofs.Common.{ap, ◌∙◌}
use Rattle.svg.specs.declared.steps.Symbol.{Symbol}
use Rattle.svg.specs.declared.steps.State.{State}
use Rattle.svg.specs.declared.steps.Step.{Step}
use Rattle.svg.specs.declared.steps.Step.TheVariants.{Go, Lettered, Shut, Bad}
use Rattle.svg.specs.Language.{pick, Item, letter, number, close}
use Rattle.svg.specs.Machine.{Verdict}
use Rattle.svg.specs.Machine.{Run, over, said, does, runs, moved, finished, ended, in_number, number_of}
use Rattle.svg.specs.Fold.{Answer, answer, says, onward, last_of, run}

abbrev pub items_in : Run → List Item
items_in (over v) = []
items_in (said x i r) = x ∷ items_in r

abbrev pub end_in : Run → Verdict
end_in (over v) = v
end_in (said x i r) = end_in r

abbrev pub answer_in : Run → Answer
answer_in r = answer (items_in r) (end_in r)

module _ (i : ℕ) (ys : List Symbol) (IH : (s : State) → run (i + 1) s ys ≡ answer_in (runs (i + 1) s ys)) where
  onward_is : (t : Step) → onward t (λ s. run (i + 1) s ys) ≡ answer_in (does t i (λ s. runs (i + 1) s ys))
  onward_is (Go s) = IH s
  onward_is (Lettered s) = ap (says (letter s.kind)) (IH s)
  onward_is (Shut s) = ap (says close) (IH s)
  onward_is (Bad c j) = refl

  either_is : (e : Bool) (x : Item) (t u : Step)
      → pick e (says x (onward t (λ s. run (i + 1) s ys))) (onward u (λ s. run (i + 1) s ys)) ≡ answer_in (pick e (said x i (does t i (λ s. runs (i + 1) s ys))) (does u i (λ s. runs (i + 1) s ys)))
  either_is true x t u = ap (says x) (onward_is t)
  either_is false x t u = onward_is u

last_is : (e : Bool) (s : State) (i : ℕ) (v w : Verdict) (x : Item) → pick e (answer (x ∷ []) v) (answer [] w) ≡ answer_in (pick e (said x i (over v)) (over w))
last_is true s i v w x = refl
last_is false s i v w x = refl

of_last : (e : Bool) (s : State) (i : ℕ) → last_of e s i ≡ pick e (last_of true s i) (last_of false s i)
of_last true s i = refl
of_last false s i = refl

pub run_is : (ys : List Symbol) (i : ℕ) (s : State) → run i s ys ≡ answer_in (runs i s ys)
unfolding run runs
run_is [] i s = of_last (in_number s.place) s i ∙ last_is (in_number s.place) s i _ _ _
run_is (y ∷ ys) i s = either_is i ys (λ t. run_is ys (i + 1) t) (ended s.place y) (number (number_of s.num)) (moved (finished s) i y) (moved s i y)
