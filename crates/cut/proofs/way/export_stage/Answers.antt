-- `cut::way::export_stage` meets its contract. Assumes nothing.
use Rattle.std.proofs.Common.{sym, ◌∙◌, refl}
use Rattle.cut.proofs.Ways.{export_refused, export_whole, export_goes}
use Rattle.cut.proofs.way.export_stage.Goals as goal

pub returns-in-Err : goal.returns-in-Err
returns-in-Err c =
    let s = c.args in
    rw c.refused.ensures (export_refused s.table s.list.now s.bytes.now _ _ (sym c.look.ensures ∙ c.in-Err.is) c.from-told.ensures)

pub unwrap-requires : goal.unwrap-requires
unwrap-requires c =
    let s = c.args in
    rw (export_whole s.table s.list.now s.bytes.now _ (sym c.look.ensures ∙ c.in-Ok.is) _ _ c.export.ensures) refl

pub returns-in-Ok : goal.returns-in-Ok
returns-in-Ok c =
    let s = c.args in
    export_goes s.table s.list.now s.bytes.now _ (sym c.look.ensures ∙ c.in-Ok.is) _ _ c.export.ensures _ c.unwrap.ensures
