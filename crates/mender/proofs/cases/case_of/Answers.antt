-- `mender::cases::case_of` meets its contract. Assumes nothing.
use mathlib.Core.Path.{sym, ◌∙◌}
use Rattle.checker.proofs.Steps.{found, not_found}
use Rattle.mender.specs.Mend.{IsCase}
use Rattle.mender.specs.CaseLaws.{none_uneven, some_uneven}
use Rattle.mender.proofs.cases.case_of.Goals as goal

pub close_broken-requires : goal.close_broken-requires
close_broken-requires c =
    let f = found _ _ _ c.first.ensures (sym c.is_some.ensures ∙ c.if-is_some.true) in
    some_uneven _ _ f.0 f.1.here

pub returns : goal.returns
unfolding IsCase
returns c = none_uneven _ _ (not_found _ _ _ c.first.ensures (sym c.is_some.ensures ∙ c.if-is_some.false))
