-- `mender::list::write` meets its contract. Assumes nothing.
use Rattle.mender.proofs.Plans.{none_wrote, wrote_room, wrote_more, all_wrote}
use Rattle.mender.proofs.list.write.Goals as goal

pub loop-k-init : goal.loop-k-init
loop-k-init c = none_wrote _ _ _ _ _

pub write_at-done-requires : goal.write_at-done-requires
write_at-done-requires c =
    wrote_room c.loop-k.invariant c.loop-k-test.true c.requires

pub loop-k-preserved : goal.loop-k-preserved
loop-k-preserved c =
    wrote_more c.loop-k.invariant c.loop-k-test.true c.write_at-done.ensures

pub returns : goal.returns
returns c = all_wrote c.loop-k.invariant c.loop-k-test.false
