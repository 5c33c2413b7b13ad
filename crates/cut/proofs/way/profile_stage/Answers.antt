-- `cut::way::profile_stage` meets its contract. Assumes nothing.
use Rattle.std.proofs.Common.{sym, ◌∙◌}
use Rattle.cut.proofs.Ways.{profile_refused, profile_goes}
use Rattle.cut.proofs.way.profile_stage.Goals as goal

pub returns-in-Ok : goal.returns-in-Ok
returns-in-Ok c =
    let s = c.args in
    c.flatten_stage.ensures ∙ sym (profile_goes s.layout s.table s.scene.now s.prefixes.now s.lines.now s.bytes.now _ c.test_scene.ensures _ c.in-Ok.is)

pub returns-in-Err : goal.returns-in-Err
returns-in-Err c =
    let s = c.args in
    rw c.refused.ensures (profile_refused s.layout s.table s.scene.now s.prefixes.now s.lines.now s.bytes.now _ c.test_scene.ensures _ c.in-Err.is _ c.number.ensures)
