-- What is told determines what was read. Assumes nothing.
use Rattle.std.specs.Prelude.{ℕ, ◌≡◌, refl, List, [], ◌∷◌, Ok, Err}
use Rattle.std.proofs.Common.{sym, ap, ◌∙◌}
use Rattle.refusals.specs.Refusals.{Read, Told, told}
use Rattle.refusals.specs.Laws.{named, number_names}

reads : {A : Type 0} → ℕ → ℕ → List A → Read A
reads number end (a ∷ more) = Ok a
reads number end [] = Err (named number end)

back : {A : Type 0} (r : Read A) → reads (told r).number (told r).end (told r).values ≡ r
unfolding told reads
back (Ok a) = refl
back (Err why) = ap Err (number_names why)

pub told_once : {A : Type 0} (r s : Read A) → told r ≡ told s → r ≡ s
told_once {A} r s e = sym (back r) ∙ ap (λ (t : Told A). reads t.number t.end t.values) e ∙ back s
