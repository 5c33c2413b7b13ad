-- `hpgl::lines::put_all` meets its contract. Assumes nothing.
use Rattle.std.proofs.Common.{◌≡◌}
use Rattle.hpgl.specs.Form.{range_of}
use Rattle.hpgl.specs.ExportLaws.{Going}
use Rattle.hpgl.proofs.lines.put_all.Given as goal

abbrev pub invariant-loop-i : goal.invariant-loop-i
invariant-loop-i g l =
    Going g.S.Sink.kind (range_of l.table) l.list l.path (g.S.Sink.held l.initial.sink) l.start (g.S.Sink.held l.sink) l.here l.i × (g.S.Sink.place l.sink ≡ g.S.Sink.place l.initial.sink)
