-- `cut::way::scan_stage` meets its contract. Assumes nothing.
use Rattle.std.proofs.Common.{sym, ◌∙◌}
use Rattle.cut.proofs.Ways.{scan_refused, scan_goes}
use Rattle.cut.proofs.way.scan_stage.Goals as goal

pub returns-in-Ok : goal.returns-in-Ok
returns-in-Ok c =
    let s = c.args in
    c.profile_stage.ensures ∙ sym (scan_goes s.layout s.table s.scene.now s.prefixes.now s.lines.now s.bytes.now _ _ c.scan.ensures _ c.in-Ok.is)

pub returns-in-Err : goal.returns-in-Err
returns-in-Err c =
    let s = c.args in
    rw c.refused.ensures (scan_refused s.layout s.table s.scene.now s.prefixes.now s.lines.now s.bytes.now _ _ c.scan.ensures _ c.in-Err.is _ c.number.ensures)
