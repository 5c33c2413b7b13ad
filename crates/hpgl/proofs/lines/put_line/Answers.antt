-- `hpgl::lines::put_line` meets its contract. Assumes nothing.
use Rattle.std.proofs.lemmas.Result.{err_from_is_err_and}
use Rattle.hpgl.specs.Form.{range_of}
use Rattle.hpgl.specs.ExportLaws.{line_joined, line_then, line_stopped}
use Rattle.hpgl.proofs.lines.put_line.Goals as goal

pub returns-then-joined-clause-says : goal.returns-then-joined-clause-says
returns-then-joined-clause-says g c =
    let a = c.args in
    line_joined g.S.Sink.kind (range_of a.table) a.line.x a.line.y a.line.z a.line.w (g.S.Sink.held a.sink.now) a.at a.joined _ _ c.if-joined.true c.put_command.ensures.says

pub returns-in_err-a-clause-says : goal.returns-in_err-a-clause-says
returns-in_err-a-clause-says g c =
    let a = c.args in
    let p = err_from_is_err_and c.from_residual.result c.from_residual.ensures.1 in
    rw (p.1, p.2) (line_stopped g.S.Sink.kind (range_of a.table) a.line.x a.line.y a.line.z a.line.w (g.S.Sink.held a.sink.now) a.at a.joined _ c.if-joined.false _ c.in_err-a.ensures.says)

pub returns-clause-says : goal.returns-clause-says
returns-clause-says g c =
    let a = c.args in
    line_then g.S.Sink.kind (range_of a.table) a.line.x a.line.y a.line.z a.line.w (g.S.Sink.held a.sink.now) a.at a.joined _ c.if-joined.false _ c.in_ok-a.ensures.says _ _ c.put_command-3.ensures.says
