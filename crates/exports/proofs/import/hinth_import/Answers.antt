-- `exports::import::hinth_import` meets its contract. Assumes nothing.
use mathlib.Core.Path.{refl}
use Rattle.exports.proofs.Imports.{no_pen, was_read}
use Rattle.exports.proofs.import.hinth_import.Goals as goal

pub returns-in_default : goal.returns-in_default
returns-in_default c =
    let a = c.args in
    no_pen a.pen.now a.text.now a.tags.now a.points.now a.out.now _ _ c.in_default.ensures.cases c.number.ensures c.put_told.ensures

pub returns : goal.returns
returns c =
    let a = c.args in
    was_read a.pen.now a.text.now a.tags.now a.points.now a.out.now c.read.result c.in-Some.words.now _ _ _ _ _ c.in-Some.ensures.cases
    c.read_pen-then.ensures c.read.ensures c.put_pen.ensures c.read.result c.from-report.result _ refl c.from-report.ensures c.put_told-2.ensures
