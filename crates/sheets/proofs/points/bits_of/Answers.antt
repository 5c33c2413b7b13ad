-- `sheets::points::bits_of` meets its contract. Assumes nothing.
use borrow.Author.Tests.{lt-ltb, le-ltb, eq-eqb, ne_eqb}
use Rattle.sheets.specs.Written.{bits_of}
use Rattle.sheets.proofs.points.bits_of.Goals as goal

pub returns-then-size-gt32768 : goal.returns-then-size-gt32768
unfolding bits_of
returns-then-size-gt32768 c = rw (lt-ltb _ _ c.if-size-gt32768.true)

pub returns-then-size-eq0 : goal.returns-then-size-eq0
unfolding bits_of
returns-then-size-eq0 c = rw (le-ltb _ _ c.if-size-gt32768.false, eq-eqb _ _ c.if-size-eq0.true)

pub returns-then-negative : goal.returns-then-negative
unfolding bits_of
returns-then-negative c = rw (le-ltb _ _ c.if-size-gt32768.false, ne_eqb _ _ c.if-size-eq0.false, c.if-negative.true)

pub returns : goal.returns
unfolding bits_of
returns c = rw (le-ltb _ _ c.if-size-gt32768.false, ne_eqb _ _ c.if-size-eq0.false, c.if-negative.false)
