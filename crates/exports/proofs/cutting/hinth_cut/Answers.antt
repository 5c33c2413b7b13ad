-- `exports::cutting::hinth_cut` meets its contract. Assumes nothing.
use mathlib.Core.Path.{◌≡◌, sym}
use mathlib.Core.List.{List}
use Prim.Native.Nat.{ℕ}
use Rattle.hpgl.specs.Export.{Cut, Outcome, outcome, cut_report}
use Rattle.hpgl.specs.declared.Report.{Report}
use Rattle.exports.specs.Check.{two_of}
use Rattle.exports.specs.Cut.{written, written_of}
use Rattle.exports.proofs.cutting.hinth_cut.Goals as goal

told_cut : (a : Cut) (bs : List ℕ) (o : Outcome) (t : Report) (os os' : List ℕ) → outcome a bs ≡ o → t ≡ cut_report a → os' ≡ two_of t.stands t.at os → written t.number bs os' ≡ written_of o os
unfolding written_of
told_cut a bs o t os os' e f g = rw (sym e, g, f)

pub returns : goal.returns
returns c = told_cut c.export.result _ _ c.from-report.result _ _ c.export.ensures c.from-report.ensures c.put_told.ensures
