-- `hpgl::lines::put_all` meets its contract. Assumes nothing.
use Rattle.std.specs.Prelude.{Ok}
use Rattle.std.proofs.Common.{◌∙◌, refl}
use Rattle.hpgl.specs.Form.{range_of}
use Rattle.hpgl.specs.ExportLaws.{none_left, other_path, record_on, record_stopped, step_room}
use Rattle.hpgl.proofs.lines.put_all.Goals.{then-word_at-path+in-Ok, else-word_at-path}
use Rattle.hpgl.proofs.lines.put_all.Goals as goal

pub returns-in-Err-clause-says : goal.returns-in-Err-clause-says
returns-in-Err-clause-says g c =
    let a = c.args in
    let l = c.loop-i in
    rw c.in_record.ensures (record_stopped g.S.Sink.kind (range_of a.table) a.list.now a.path (g.S.Sink.held l.sink) l.here l.i c.loop-i-test.true _ _ c.put_record.ensures.says _ c.in-Err.is ∙ l.invariant.0.same)

pub loop-i-preserved : goal.loop-i-preserved
loop-i-preserved g c =
    let a = c.args in
    let l = c.loop-i in
    elim c.if-word_at-path.branch [
      | then-word_at-path+in-Ok w ↦
          rw (w.sink-is, w.here-is) (
            record {
              same = record_on g.S.Sink.kind (range_of a.table) a.list.now a.path (g.S.Sink.held l.sink) l.here l.i c.loop-i-test.true _ _ w.put_record.ensures.says _ w.in-Ok.is ∙ l.invariant.0.same;
              room = step_room g.S.Sink.kind (range_of a.table) a.list.now a.path (g.S.Sink.held l.sink) l.here l.i c.loop-i-test.true _ _ w.put_record.ensures.says _ w.in-Ok.is;
            },
            w.put_record.ensures.same ∙ l.invariant.1,
          )
      | else-word_at-path w ↦
          let s = other_path g.S.Sink.kind (range_of a.table) a.list.now a.path l.i l.here (g.S.Sink.held l.sink) (λ e. w.if-word_at-path.false (c.word_at.ensures ∙ e)) l.invariant.0.room in
          rw (w.sink-is, w.here-is) (
            record {
              same = record_on g.S.Sink.kind (range_of a.table) a.list.now a.path (g.S.Sink.held l.sink) l.here l.i c.loop-i-test.true _ _ s _ refl ∙ l.invariant.0.same;
              room = l.invariant.0.room;
            },
            l.invariant.1,
          )
    ]

pub returns-clause-says : goal.returns-clause-says
returns-clause-says g c =
    let a = c.args in
    let l = c.loop-i in
    none_left g.S.Sink.kind (range_of a.table) a.list.now a.path (g.S.Sink.held l.sink) l.here l.i c.loop-i-test.false ∙ l.invariant.0.same
