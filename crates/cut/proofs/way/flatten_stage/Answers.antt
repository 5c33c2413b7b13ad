-- `cut::way::flatten_stage` meets its contract. Assumes nothing.
use Rattle.cut.proofs.Ways.{smaller_fits, flatten_refused, flatten_goes}
use Rattle.cut.proofs.way.flatten_stage.Goals as goal

pub slice_bounds-export_stage-end-in-Ok : goal.slice_bounds-export_stage-end-in-Ok
slice_bounds-export_stage-end-in-Ok c = smaller_fits _ _ _ c.smaller-n.ensures

pub returns-in-Ok : goal.returns-in-Ok
returns-in-Ok c =
    let s = c.args in
    flatten_goes s.layout s.table s.scene.now s.prefixes.now s.lines.now s.bytes.now c.fresh-boxes.result c.fresh-boxes.ensures _ _ _ _ c.flatten_owned.ensures _ c.in-Ok.is _ c.smaller-n.ensures _ _ c.export_stage.ensures

pub returns-in-Err : goal.returns-in-Err
returns-in-Err c =
    let s = c.args in
    rw c.refused.ensures (flatten_refused s.layout s.table s.scene.now s.prefixes.now s.lines.now s.bytes.now c.fresh-boxes.result c.fresh-boxes.ensures _ _ _ _ c.flatten_owned.ensures _ c.in-Err.is _ c.number.ensures)
