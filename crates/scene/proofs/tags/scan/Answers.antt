-- `scene::tags::scan` meets its contract. After i turns the first i prefixes are filled, the words behind are as lent, and the sums are those of the next prefix.
-- Assumes nothing.
use Rattle.std.proofs.Common.{◌≡◌, arith}
use Rattle.scene.proofs.Laws.{begin, turn, past, done}
use Rattle.scene.proofs.tags.scan.Goals as goal

pub returns-then-base-scene : goal.returns-then-base-scene
returns-then-base-scene c = let a = c.args in past a.scene.now a.tag_base a.prefixes.now c.if-base-scene.true

pub loop-i-init : goal.loop-i-init
loop-i-init c =
    let a = c.args in
    (omega arith, begin a.scene.now a.tag_base a.prefixes.now c.sums_below-sums.ensures)

pub loop-i-preserved : goal.loop-i-preserved
loop-i-preserved c = (
  omega arith,
  turn c.loop-i.invariant.1 (omega arith) c.put_prefix.ensures c.new.ensures c.combine-sums.ensures,
)

pub returns : goal.returns
returns c =
    let all : c.loop-i.i ≡ c.min-n.result = omega arith in
    done (rw all at c.loop-i.invariant.1) c.if-base-scene.false c.min-n.ensures
