-- `mender::cases::sought_at` meets its contract. Assumes nothing.
use mathlib.Core.Path.{sym, ◌∙◌}
use borrow.Author.Tests.{eq-eqb, ne_eqb}
use Rattle.mender.specs.Sought.{sought_at}
use Rattle.mender.proofs.cases.sought_at.Goals as goal

pub returns-then-word_at-path : goal.returns-then-word_at-path
unfolding sought_at
returns-then-word_at-path c = rw (ne_eqb _ _ (λ e. c.if-word_at-path.true (c.word_at.ensures ∙ e)))

pub returns : goal.returns
unfolding sought_at
returns c =
    rw (eq-eqb _ _ (sym c.word_at.ensures ∙ c.if-word_at-path.false), c.is_sought.ensures, c.count_both.ensures, c.keys_at-line.ensures)
