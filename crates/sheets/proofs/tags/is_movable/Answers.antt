-- `sheets::tags::is_movable` meets its contract. Assumes nothing.
use Rattle.sheets.proofs.Laws.{fixed_none, to_new, to_old}
use Rattle.sheets.proofs.tags.is_movable.Goals as goal

pub returns-then-count_of-eq0 : goal.returns-then-count_of-eq0
returns-then-count_of-eq0 c = fixed_none c.args.tag _ c.count_of.ensures c.if-count_of-eq0.true c.args.to_f32

pub returns-then-to_f32 : goal.returns-then-to_f32
returns-then-to_f32 c = to_new c.args.tag _ c.count_of.ensures c.if-count_of-eq0.false c.args.to_f32 c.if-to_f32.true

pub returns-else-to_f32 : goal.returns-else-to_f32
returns-else-to_f32 c = to_old c.args.tag _ c.count_of.ensures c.if-count_of-eq0.false c.args.to_f32 c.if-to_f32.false
