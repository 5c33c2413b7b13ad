-- `trig::cos` meets its contract. Assumes nothing.
use Rattle.trig.proofs.Direct.{cos_direct}
use Rattle.trig.proofs.cos.Goals as goal

pub returns-then-c : goal.returns-then-c
returns-then-c c = cos_direct _ _ c.if-x.true c.cos_near-c.ensures c.if-c.true
