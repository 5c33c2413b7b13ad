-- `checker::check` meets its contract. Assumes nothing.
use Rattle.checker.specs.Verdict.{Answers}
use Rattle.checker.specs.Laws.{even_balanced}
use Rattle.checker.proofs.check.Goals as goal

pub returns-then-n-gt2000 : goal.returns-then-n-gt2000
unfolding Answers
returns-then-n-gt2000 c = c.if-n-gt2000.true

pub returns-then-list-ne0 : goal.returns-then-list-ne0
unfolding Answers
returns-then-list-ne0 c = (c.if-n-gt2000.false, c.if-list-ne0.true)

pub returns-in-Some : goal.returns-in-Some
unfolding Answers
returns-in-Some c = (record { few = c.if-n-gt2000.false; whole = c.if-list-ne0.false }, rw c.in-Some.is at c.first_bad.ensures)

pub returns-in-Some-first_uneven : goal.returns-in-Some-first_uneven
unfolding Answers
returns-in-Some-first_uneven c = (
  record { few = c.if-n-gt2000.false; whole = c.if-list-ne0.false },
  rw c.in_default.is at c.first_bad.ensures,
  rw c.in-Some-first_uneven.is at c.first_uneven.ensures,
)

pub returns : goal.returns
unfolding Answers
returns c = (
  record { few = c.if-n-gt2000.false; whole = c.if-list-ne0.false },
  record {
    finite = rw c.in_default.is at c.first_bad.ensures;
    balanced = even_balanced _ (rw c.in_default-first_uneven.is at c.first_uneven.ensures);
  },
)
