-- `flatten::call::start` meets its contract. Assumes nothing.
use Rattle.std.proofs.Common.{le-ltb, lt-ltb}
use Rattle.flatten.specs.Call.{start_of}
use Rattle.flatten.proofs.call.start.Goals as goal

pub returns-then-scene_len-layout : goal.returns-then-scene_len-layout
unfolding start_of
returns-then-scene_len-layout c = rw (c.first_turn.ensures, lt-ltb _ _ c.if-scene_len-layout.true)

pub returns-then-scene_len-layout-2 : goal.returns-then-scene_len-layout-2
unfolding start_of
returns-then-scene_len-layout-2 c = rw (c.first_turn-then-scene_len-layout-2.ensures, le-ltb _ _ c.if-scene_len-layout.false, lt-ltb _ _ c.if-scene_len-layout-2.true)

pub returns : goal.returns
unfolding start_of
returns c = rw (c.first_turn-2.ensures, le-ltb _ _ c.if-scene_len-layout.false, le-ltb _ _ c.if-scene_len-layout-2.false)
