-- `exports::pen::hinth_quad` meets its contract. Assumes nothing.
use Rattle.pattern.specs.Commands.{quad, draw}
use Rattle.exports.specs.Pen.{spot_of}
use Rattle.exports.proofs.Pens.{too_short, answered}
use Rattle.exports.proofs.pen.hinth_quad.Goals as goal

pub returns-in_default : goal.returns-in_default
returns-in_default c =
    let a = c.args in
    too_short a.pen.now (draw (quad (spot_of a.x1 a.y1) (spot_of a.x a.y))) a.tags.now a.points.now _ c.in_default.ensures.cases c.number.ensures

pub returns : goal.returns
returns c =
    let a = c.args in
    answered a.pen.now (draw (quad (spot_of a.x1 a.y1) (spot_of a.x a.y))) a.tags.now a.points.now c.in-Some.words.now c.quad_to-drew.result c.read_pen.result _ _ _ _ _ c.in-Some.ensures.cases c.read_pen.ensures (rw (c.spot_of-to.ensures, c.spot_of-by.ensures)) c.quad_to-drew.ensures c.keep_pen.ensures
