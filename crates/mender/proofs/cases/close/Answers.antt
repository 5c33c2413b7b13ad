-- `mender::cases::close` meets its contract. Assumes nothing.
use mathlib.Core.Path.{sym, ◌∙◌}
use mathlib.Core.Logic.{inl, inr}
use Rattle.checker.proofs.Steps.{found, not_found}
use Rattle.mender.specs.CaseLaws.{other_unmended, far_unmended, none_other_mended}
use Rattle.mender.proofs.cases.close.Goals as goal

pub returns-then-is_some : goal.returns-then-is_some
returns-then-is_some c =
    let f = found _ _ _ c.first.ensures (sym c.is_some.ensures ∙ c.if-is_some.true) in
    other_unmended _ _ _ _ _ _ _ c.requires.0 c.requires.1 f.0 f.1.here

pub returns-then-near-2 : goal.returns-then-near-2
returns-then-near-2 c =
    none_other_mended _ _ _ _ _ _ _ c.requires.0 c.requires.1 (not_found _ _ _ c.first.ensures (sym c.is_some.ensures ∙ c.if-is_some.false)) (sym c.near.ensures ∙ c.if-near.true) (sym c.near-then-near.ensures ∙ c.if-near-2.true)

pub returns-else-near-2 : goal.returns-else-near-2
returns-else-near-2 c =
    far_unmended _ _ _ _ _ _ _ c.requires.0 c.requires.1 (inr (sym c.near-then-near.ensures ∙ c.if-near-2.false))

pub returns-else-near : goal.returns-else-near
returns-else-near c =
    far_unmended _ _ _ _ _ _ _ c.requires.0 c.requires.1 (inl (sym c.near.ensures ∙ c.if-near.false))
