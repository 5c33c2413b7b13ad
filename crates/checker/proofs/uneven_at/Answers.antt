-- `checker::uneven_at` meets its contract. Assumes nothing.
use Rattle.checker.proofs.Steps.{uneven_record}
use Rattle.checker.proofs.uneven_at.Goals as goal

pub returns : goal.returns
returns c =
    uneven_record _ _ c.word_at-path.ensures c.keys_at.ensures c.count_both-c.ensures
