-- `exports::cutting::table_of` meets its contract. Assumes nothing.
use borrow.Author.Tests.{eq-eqb, ne_eqb}
use Rattle.exports.specs.Cut.{table_of}
use Rattle.exports.proofs.cutting.table_of.Goals as goal

pub returns-then-number-eq1 : goal.returns-then-number-eq1
unfolding table_of
returns-then-number-eq1 c = rw (eq-eqb c.args.number 1 c.if-number-eq1.true)

pub returns : goal.returns
unfolding table_of
returns c = rw (ne_eqb c.args.number 1 c.if-number-eq1.false)
