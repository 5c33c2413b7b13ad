-- `cut::sheet::tag_byte` meets its contract. Assumes nothing.
use mathlib.Core.Path.{sym}
use native.Mathlib.Omega.{arith}
use Rattle.cut.specs.Sheet.{tag_bytes}
use Rattle.cut.specs.SheetLaws.{drawn_byte, path_byte, no_byte}
use Rattle.cut.proofs.sheet.tag_byte.Goals as goal

pub returns-then-i-eq0 : goal.returns-then-i-eq0
unfolding tag_bytes
returns-then-i-eq0 c = rw c.if-i-eq0.true

pub returns-then-i-eq1 : goal.returns-then-i-eq1
unfolding tag_bytes
returns-then-i-eq1 c = rw c.if-i-eq1.true

pub returns-then-j-tags : goal.returns-then-j-tags
returns-then-j-tags c = sym (drawn_byte c.args.tags.now _ _ (omega arith) (omega arith))

pub returns-then-j-tags-2 : goal.returns-then-j-tags-2
returns-then-j-tags-2 c = sym (path_byte c.args.tags.now _ (omega arith))

pub returns : goal.returns
returns c = sym (no_byte c.args.tags.now _ (omega arith))
