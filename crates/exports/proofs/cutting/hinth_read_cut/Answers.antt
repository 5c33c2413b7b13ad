-- `exports::cutting::hinth_read_cut` meets its contract. Assumes nothing.
use mathlib.Core.Path.{◌≡◌, sym}
use mathlib.Core.List.{List}
use Prim.Native.Nat.{ℕ}
use lib.IntN.{ℤ}
use Rattle.hpgl.specs.Reading.{ReadBack, Told, told, back_report}
use Rattle.hpgl.specs.declared.Report.{Report}
use Rattle.exports.specs.Check.{two_of}
use Rattle.exports.specs.Cut.{lines_read, lines_read_of}
use Rattle.exports.proofs.cutting.hinth_read_cut.Goals as goal

told_lines : (a : ReadBack) (zs : List ℤ) (o : Told) (t : Report) (os os' : List ℕ) → told a zs ≡ o → t ≡ back_report a → os' ≡ two_of t.stands t.at os → lines_read t.number zs os' ≡ lines_read_of o os
unfolding lines_read_of
told_lines a zs o t os os' e f g = rw (sym e, g, f)

pub returns : goal.returns
returns c = told_lines c.read.result _ _ c.from-back.result _ _ (rw c.table_of.ensures at c.read.ensures) c.from-back.ensures c.put_told.ensures
