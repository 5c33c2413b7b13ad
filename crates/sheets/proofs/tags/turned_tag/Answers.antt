-- `sheets::tags::turned_tag` meets its contract. Assumes nothing.
use native.Mathlib.Omega.{arith}
use Rattle.sheets.proofs.Laws.{turned_none, turned_new, turned_old, room_above, room_below}
use Rattle.sheets.proofs.tags.turned_tag.Goals as goal

pub returns-then-count_of-eq0 : goal.returns-then-count_of-eq0
returns-then-count_of-eq0 c = turned_none c.args.tag _ c.count_of.ensures c.if-count_of-eq0.true c.args.to_f32

pub overflow_add-result : goal.overflow_add-result
overflow_add-result c = let h = room_above c.args.tag _ c.count_of.ensures c.if-count_of-eq0.false c.args.to_f32 c.requires c.if-to_f32.true (omega arith) in omega arith

pub returns-then-to_f32 : goal.returns-then-to_f32
returns-then-to_f32 c = turned_new c.args.tag _ c.count_of.ensures c.if-count_of-eq0.false c.args.to_f32 c.requires c.if-to_f32.true

pub overflow_sub-result : goal.overflow_sub-result
overflow_sub-result c = room_below c.args.tag _ c.count_of.ensures c.if-count_of-eq0.false c.args.to_f32 c.requires c.if-to_f32.false

pub returns-else-to_f32 : goal.returns-else-to_f32
returns-else-to_f32 c = turned_old c.args.tag _ c.count_of.ensures c.if-count_of-eq0.false c.args.to_f32 c.requires c.if-to_f32.false
