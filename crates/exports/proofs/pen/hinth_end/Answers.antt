-- `exports::pen::hinth_end` meets its contract. Assumes nothing.
use mathlib.Core.Path.{refl}
use Rattle.pattern.specs.Commands.{end}
use Rattle.exports.proofs.Pens.{too_short, answered}
use Rattle.exports.proofs.pen.hinth_end.Goals as goal

pub returns-in_default : goal.returns-in_default
returns-in_default c =
    let a = c.args in
    too_short a.pen.now end a.tags.now a.points.now _ c.in_default.ensures.cases c.number.ensures

pub returns : goal.returns
returns c =
    let a = c.args in
    answered a.pen.now end a.tags.now a.points.now c.in-Some.words.now c.end-drew.result c.read_pen.result _ _ _ _ _ c.in-Some.ensures.cases c.read_pen.ensures (refl) c.end-drew.ensures c.keep_pen.ensures
