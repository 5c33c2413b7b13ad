-- `mender::cases::first` meets its contract. Assumes nothing.
use Rattle.std.proofs.Common.{◌≡◌, true, false, rules, tests}
use Rattle.std.proofs.lemmas.Iterator.{first_from_Range}
use Rattle.checker.proofs.Steps.{finds}
use Rattle.mender.specs.Sought.{sought_at}
use Rattle.mender.proofs.cases.first.Goals as goal

pub returns : goal.returns
returns c =
    let f = sought_at c.args.list.now c.args.path c.args.what in
    finds f _ c.find.result (first_from_Range _ _ _ _ (λ i. f i ≡ true) (λ i. f i ≡ false) c.find.ensures.ran (λ x q k. search (rules, tests)) (λ x q k. (search rules, search (rules, tests))))
