-- `scene::tags::sums_below` meets its contract: so far the sums are those before the place reached. Assumes nothing.
use Rattle.std.proofs.Common.{refl, add-one, arith}
use Rattle.scene.specs.Tags.{sums_below}
use Rattle.scene.proofs.tags.sums_below.Goals as goal

pub loop-k-init : goal.loop-k-init
unfolding sums_below
loop-k-init c = (omega arith, refl)

pub loop-k-preserved : goal.loop-k-preserved
unfolding sums_below
loop-k-preserved c =
    let k = c.loop-k in
    (omega arith, rw (add-one k.k, c.combine-sums.ensures, c.tag_sums.ensures, c.byte_at.ensures, k.invariant.1))
