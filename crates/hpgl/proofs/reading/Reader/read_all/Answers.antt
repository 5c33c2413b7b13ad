-- `hpgl::reading::Reader::read_all` meets its contract. Assumes nothing.
use Rattle.std.proofs.Common.{Ok}
use mathlib.Core.Path.{◌∙◌, ap, sym, refl}
use native.Mathlib.Omega.{arith}
use Rattle.hpgl.specs.ReadingLaws.{none_unread, read_up, read_line, read_full, read_stopped, up_in, line_in}
use Rattle.hpgl.proofs.reading.Reader.read_all.Goals as goal

pub loop-at-preserved-in-Up : goal.loop-at-preserved-in-Up
loop-at-preserved-in-Up c = record { same = read_up c.args.self.table c.args.self.file.now c.loop-at.lines c.loop-at.count c.loop-at.at c.loop-at.stand _ (rw c.in-Ok.is at c.read_command.ensures) _ _ (ap Ok c.in-Up.is) ∙ c.loop-at.invariant.same; inside = (up_in c.args.self.table c.args.self.file.now c.loop-at.lines c.loop-at.count c.loop-at.at c.loop-at.stand _ (rw c.in-Ok.is at c.read_command.ensures) _ _ (ap Ok c.in-Up.is)).1; kept = c.loop-at.invariant.kept; room = c.loop-at.invariant.room; few = c.loop-at.invariant.few }

pub returns-then-count-room : goal.returns-then-count-room
returns-then-count-room c = read_full c.args.self.table c.args.self.file.now c.loop-at.lines c.loop-at.count c.loop-at.at c.loop-at.stand _ (rw c.in-Ok.is at c.read_command.ensures) _ _ _ (ap Ok c.in-Line.is) (omega (arith, c.loop-at.invariant.kept, c.if-count-room.true)) ∙ c.loop-at.invariant.same

pub loop-at-preserved : goal.loop-at-preserved
loop-at-preserved c = record { same = rw c.store.ensures (read_line c.args.self.table c.args.self.file.now c.loop-at.lines c.loop-at.count c.loop-at.at c.loop-at.stand _ (rw c.in-Ok.is at c.read_command.ensures) _ _ _ (ap Ok c.in-Line.is) (omega (arith, c.loop-at.invariant.kept, c.if-count-room.false)) ∙ c.loop-at.invariant.same); inside = (line_in c.args.self.table c.args.self.file.now c.loop-at.lines c.loop-at.count c.loop-at.at c.loop-at.stand _ (rw c.in-Ok.is at c.read_command.ensures) _ _ _ (ap Ok c.in-Line.is)).1; kept = c.store.auto.lines ∙ c.loop-at.invariant.kept; room = refl; few = omega (arith, c.store.auto.lines, c.loop-at.invariant.kept, c.if-count-room.false) }

pub returns-in-Err : goal.returns-in-Err
returns-in-Err c = rw (sym c.behind.ensures) at (read_stopped c.args.self.table c.args.self.file.now c.loop-at.lines c.loop-at.count c.loop-at.at c.loop-at.stand c.read_command.result c.read_command.ensures _ c.in-Err.is) ∙ c.loop-at.invariant.same

pub returns : goal.returns
returns c = rw c.ended.ensures (none_unread c.args.self.table c.args.self.file.now c.loop-at.lines c.loop-at.count c.loop-at.at c.loop-at.stand c.loop-at-test.false ∙ c.loop-at.invariant.same)
