-- `hpgl::lines::put_record` meets its contract. Assumes nothing.
use Rattle.std.proofs.lemmas.Result.{err_from_is_err_and}
use Rattle.hpgl.specs.Form.{range_of}
use Rattle.hpgl.specs.ExportLaws.{its_line}
use Rattle.hpgl.proofs.lines.put_record.Goals as goal

pub returns-in_err-at-clause-says : goal.returns-in_err-at-clause-says
returns-in_err-at-clause-says g c =
    let a = c.args in
    let p = err_from_is_err_and c.from_residual.result c.from_residual.ensures.1 in
    rw (p.1, p.2)
    (its_line g.S.Sink.kind (range_of a.table) a.list.now a.path a.i a.from (g.S.Sink.held a.sink.now) c.requires.its _ _ c.line_at-line.ensures c.goes_on-joined.ensures _ _ c.in_err-at.ensures.says)

pub returns-clause-says : goal.returns-clause-says
returns-clause-says g c =
    let a = c.args in
    its_line g.S.Sink.kind (range_of a.table) a.list.now a.path a.i a.from (g.S.Sink.held a.sink.now) c.requires.its _ _ c.line_at-line.ensures c.goes_on-joined.ensures _ _ c.in_ok-at.ensures.says
