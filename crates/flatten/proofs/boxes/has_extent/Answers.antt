-- `flatten::boxes::has_extent` meets its contract. Assumes nothing.
use Rattle.std.proofs.Common.{sym, ◌∙◌}
use Rattle.flatten.specs.Boxes.{has_extent}
use Rattle.flatten.proofs.Bounds.{tested}
use Rattle.flatten.proofs.boxes.has_extent.Goals as goal

pub returns-then-bbox : goal.returns-then-bbox
unfolding has_extent
returns-then-bbox c =
    let b = c.args.bbox in
    let given = c.struct_told-1.given in
    rw (sym (tested b.x0 b.x1 given.0.1 given.1.1.0.1) ∙ c.if-bbox.true)

pub returns : goal.returns
unfolding has_extent
returns c =
    let b = c.args.bbox in
    let given = c.struct_told-2-1.given in
    rw (sym (tested b.x0 b.x1 given.0.1 given.1.1.0.1) ∙ c.if-bbox.false, tested b.y0 b.y1 given.1.0.1 given.1.1.1.0.1)
