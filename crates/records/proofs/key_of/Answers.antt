-- `records::key_of` meets its contract. Assumes nothing.
use borrow.Author.Tests.{eq-eqb, ne_eqb}
use Rattle.records.specs.Record.{key}
use Rattle.records.proofs.key_of.Goals as goal

pub returns-then-w-eq2147483648 : goal.returns-then-w-eq2147483648
unfolding key
returns-then-w-eq2147483648 c = simp (eq-eqb _ _ c.if-w-eq2147483648.true)

pub returns-else-w-eq2147483648 : goal.returns-else-w-eq2147483648
unfolding key
returns-else-w-eq2147483648 c = simp (ne_eqb _ _ c.if-w-eq2147483648.false)
