-- `exports::call::hinth_flatten` meets its contract: the call's answer and lists, and the report of the answer. Assumes nothing.
use Rattle.std.proofs.Common.{◌≡◌, ℕ, List, ap, ◌∙◌}
use Rattle.flatten.specs.declared.boxes.PathBox.{PathBox}
use Rattle.flatten.specs.Call.{Answer, Outcome, told_of, report_of, outcome}
use Rattle.exports.specs.Call.{reported, reported_of}
use Rattle.exports.proofs.call.hinth_flatten.Goals as goal

all_said : (o : Outcome) (r : Answer) (zs : List PathBox) (us ts : List ℕ) (k : ℕ) (os : List ℕ) → outcome (told_of r) zs us ≡ o
    → (k ≡ (told_of r).number) × (os ≡ report_of (told_of r) ts) → reported k zs us os ≡ reported_of o ts
unfolding reported_of
all_said o r zs us ts k os e e₁ = (λ i. reported (e₁.0 i) zs us (e₁.1 i)) ∙ ap (λ (a : Outcome). reported_of a ts) e

pub returns : goal.returns
returns c = all_said _ c.flatten_main-answer.result c.flatten_main-answer.new.boxes c.flatten_main-answer.new.lines c.args.out.now _ _ c.flatten_main-answer.ensures c.report.ensures
