-- `lists::digit` meets its contract. Assumes nothing.
use borrow.Author.Tests.{lt-ltb, le-ltb}
use Rattle.lists.specs.Lists.{digit_of}
use Rattle.lists.proofs.digit.Goals as goal

pub returns-then-b-lt97 : goal.returns-then-b-lt97
unfolding digit_of
returns-then-b-lt97 c = simp (lt-ltb _ _ c.if-b-lt97.true)

pub returns-else-b-lt97 : goal.returns-else-b-lt97
unfolding digit_of
returns-else-b-lt97 c = simp (le-ltb _ _ c.if-b-lt97.false)
