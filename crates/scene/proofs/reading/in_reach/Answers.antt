-- `scene::reading::in_reach` meets its contract. Assumes nothing.
use Rattle.std.proofs.Common.{arith}
use Rattle.scene.specs.Reading.{point_count}
use Rattle.scene.proofs.Points.{beyond, within}
use Rattle.scene.proofs.reading.in_reach.Goals as goal

pub overflow_sub-count : goal.overflow_sub-count
unfolding point_count
overflow_sub-count c = omega arith

pub point_words-requires : goal.point_words-requires
unfolding point_count
point_words-requires c = omega arith

pub returns-then-last-gt4294967295 : goal.returns-then-last-gt4294967295
returns-then-last-gt4294967295 c =
    let a = c.args in
    beyond a.kind a.wide a.offset a.scene.now a.data_base c.point_count-count.ensures c.point_words.ensures.0 c.if-last-gt4294967295.true

pub point_words-requires-2 : goal.point_words-requires-2
unfolding point_count
point_words-requires-2 c = omega arith

pub returns : goal.returns
returns c =
    let a = c.args in
    within a.kind a.wide a.offset a.scene.now a.data_base c.point_count-count.ensures c.point_words.ensures.0 c.point_words-2.ensures.0 c.if-last-gt4294967295.false
