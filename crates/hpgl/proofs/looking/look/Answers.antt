-- `hpgl::looking::look` meets its contract. Assumes nothing.
use Rattle.std.proofs.Common.{◌∙◌}
use Rattle.hpgl.specs.ExportLaws.{no_look, looked}
use Rattle.hpgl.proofs.looking.look.Goals as goal

pub returns-then-room-lt3 : goal.returns-then-room-lt3
returns-then-room-lt3 c = no_look c.args.list.now c.args.path c.args.table c.args.room c.if-room-lt3.true

pub returns : goal.returns
returns c = c.put_all.ensures.says ∙ looked c.args.list.now c.args.path c.args.table c.args.room c.if-room-lt3.false
