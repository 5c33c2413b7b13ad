-- `checker::first_bad` meets its contract. Assumes nothing.
use Rattle.std.proofs.Common.{◌≡◌, true, false, rules, tests}
use Rattle.std.proofs.lemmas.Iterator.{first_from_Range}
use Rattle.records.specs.Record.{bad_at}
use Rattle.checker.proofs.Steps.{finds}
use Rattle.checker.proofs.first_bad.Goals as goal

pub returns : goal.returns
returns c =
    let f = bad_at c.args.list.now in
    finds f c.args.n c.find.result (first_from_Range _ _ _ _ (λ i. f i ≡ true) (λ i. f i ≡ false) c.find.ensures.ran (λ x q k. search (rules, tests)) (λ x q k. (search rules, search (rules, tests))))
