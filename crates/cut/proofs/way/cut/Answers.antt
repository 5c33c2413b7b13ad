-- `cut::way::cut` meets its contract. Assumes nothing.
use Rattle.cut.specs.Sheet.{six_of}
use Rattle.cut.proofs.Ways.{smaller_fits, text_refused, text_goes}
use Rattle.cut.proofs.way.cut.Goals as goal

pub returns-in-Err : goal.returns-in-Err
returns-in-Err c =
    let s = c.args in
    rw c.refused.ensures
    (text_refused s.text.now (six_of s.six) s.table s.tags.now s.points.now s.scene.now s.prefixes.now s.lines.now s.bytes.now
    _ c.fresh_pen-pen.ensures c.read.result _ _ _ c.read.ensures _ c.from-report.result c.in-Err.is c.from-report.ensures)

pub slice_bounds-sheet_stage-end-2 : goal.slice_bounds-sheet_stage-end-2
slice_bounds-sheet_stage-end-2 c = smaller_fits _ _ _ c.smaller-n.ensures

pub slice_bounds-sheet_stage-end-4 : goal.slice_bounds-sheet_stage-end-4
slice_bounds-sheet_stage-end-4 c = smaller_fits _ _ _ c.smaller-m.ensures

pub returns : goal.returns
returns c =
    let s = c.args in
    text_goes s.text.now (six_of s.six) s.table s.tags.now s.points.now s.scene.now s.prefixes.now s.lines.now s.bytes.now
    _ c.fresh_pen-pen.ensures c.read.result _ _ _ c.read.ensures c.in_default.is
    _ _ c.smaller-n.ensures c.smaller-m.ensures _ c.sheet_stage.ensures
