-- `hpgl::reading::read` meets its contract. Assumes nothing.
use mathlib.Core.Path.{◌∙◌, sym}
use Rattle.hpgl.specs.ReadingLaws.{no_i, no_n, no_end, all_in, three_in}
use Rattle.hpgl.proofs.reading.read.Goals as goal

pub returns-then-not-is_at : goal.returns-then-not-is_at
returns-then-not-is_at c = no_i c.args.table c.args.file.now c.args.lines.now (sym c.is_at.ensures ∙ c.if-not-is_at.true)

pub returns-then-not-is_at-2 : goal.returns-then-not-is_at-2
returns-then-not-is_at-2 c = no_n c.args.table c.args.file.now c.args.lines.now (sym c.is_at.ensures ∙ c.if-not-is_at.false) (sym c.is_at-2.ensures ∙ c.if-not-is_at-2.true)

pub returns-then-not-is_at-3 : goal.returns-then-not-is_at-3
returns-then-not-is_at-3 c = no_end c.args.table c.args.file.now c.args.lines.now (sym c.is_at.ensures ∙ c.if-not-is_at.false) (sym c.is_at-2.ensures ∙ c.if-not-is_at-2.false) (sym c.is_at-3.ensures ∙ c.if-not-is_at-3.true)

pub read_all-requires : goal.read_all-requires
read_all-requires c = three_in c.args.table c.args.file.now c.args.lines.now (sym c.is_at.ensures ∙ c.if-not-is_at.false) (sym c.is_at-2.ensures ∙ c.if-not-is_at-2.false) (sym c.is_at-3.ensures ∙ c.if-not-is_at-3.false)

pub returns : goal.returns
returns c = c.read_all.ensures ∙ all_in c.args.table c.args.file.now c.args.lines.now (sym c.is_at.ensures ∙ c.if-not-is_at.false) (sym c.is_at-2.ensures ∙ c.if-not-is_at-2.false) (sym c.is_at-3.ensures ∙ c.if-not-is_at-3.false)
