-- `hpgl::lines::put_command` meets its contract. Assumes nothing.
use Rattle.hpgl.specs.Form.{range_of}
use Rattle.hpgl.specs.ExportLaws.{put_bad, put_text}
use Rattle.hpgl.proofs.lines.put_command.Goals as goal

pub returns-in-None-clause-says : goal.returns-in-None-clause-says
returns-in-None-clause-says g c =
    let a = c.args in
    put_bad g.S.Sink.kind (range_of a.table) a.draws a.x a.y (g.S.Sink.held a.sink.now) a.at (rw c.in-None.is at c.aim_at.ensures)

pub returns-in-Some-clause-says : goal.returns-in-Some-clause-says
returns-in-Some-clause-says g c =
    let a = c.args in
    put_text g.S.Sink.kind (range_of a.table) a.draws a.x a.y (g.S.Sink.held a.sink.now) a.at _ (rw c.in-Some.is at c.aim_at.ensures) _ _ c.put.ensures.taken
