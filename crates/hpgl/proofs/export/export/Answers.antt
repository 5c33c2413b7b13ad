-- `hpgl::export::export` meets its contract. Assumes nothing.
use Rattle.std.proofs.Common.{rules, ◌∙◌}
use Rattle.hpgl.specs.ExportLaws.{no_opening, opened}
use Rattle.hpgl.proofs.export.export.Goals as goal

pub returns-then-out-lt3 : goal.returns-then-out-lt3
returns-then-out-lt3 c = no_opening c.args.list.now c.args.path c.args.out.now c.if-out-lt3.true

pub returns : goal.returns
returns c =
    let p = c.put_all.ensures.says ∙ opened c.args.list.now c.args.path c.args.out.now c.if-out-lt3.false in
    let q = c.put_all.ensures.same in
    search rules
