-- `exports::whole::hinth_cut_text` meets its contract. Assumes nothing.
use Rattle.exports.proofs.Wholes.{reported}
use Rattle.exports.proofs.whole.hinth_cut_text.Goals as goal

pub returns : goal.returns
returns c =
    let s = c.args in
    reported s.text.now s.tags.now s.points.now s.scene.now s.prefixes.now s.lines.now s.bytes.now
    c.six_of-six.result _ c.six_of-six.ensures c.table_of-table.result _ c.table_of-table.ensures
    c.cut-answer.result c.from-report.result s.out.now _ _ _ _ _ _ _ c.cut-answer.ensures c.from-report.ensures c.put_told.ensures
