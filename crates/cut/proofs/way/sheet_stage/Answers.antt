-- `cut::way::sheet_stage` meets its contract. Assumes nothing.
use Rattle.std.proofs.Common.{sym, ◌∙◌}
use Rattle.cut.specs.Sheet.{six_of}
use Rattle.cut.proofs.Ways.{sheet_refused, sheet_goes}
use Rattle.cut.proofs.way.sheet_stage.Goals as goal

pub returns-in-Ok : goal.returns-in-Ok
returns-in-Ok c =
    let s = c.args in
    c.scan_stage.ensures
    ∙ sym (sheet_goes s.tags.now s.points.now (six_of s.six) s.table s.scene.now s.prefixes.now s.lines.now s.bytes.now _ _ c.lay.ensures _ c.in-Ok.is)

pub returns-in-Err : goal.returns-in-Err
returns-in-Err c =
    let s = c.args in
    rw c.refused.ensures (sheet_refused s.tags.now s.points.now (six_of s.six) s.table s.scene.now s.prefixes.now s.lines.now s.bytes.now _ _ c.lay.ensures _ c.in-Err.is)
