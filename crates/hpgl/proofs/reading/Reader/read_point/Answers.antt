-- `hpgl::reading::Reader::read_point` meets its contract. Assumes nothing.
use Rattle.std.proofs.lemmas.Result.{err_from_is_err_and}
use Rattle.hpgl.proofs.Signed.{within_back}
use Rattle.hpgl.specs.ReadingLaws.{x_then, x_stopped}
use Rattle.hpgl.proofs.reading.Reader.read_point.Goals as goal

pub returns-in_err-x : goal.returns-in_err-x
returns-in_err-x c =
    let p = err_from_is_err_and c.from_residual.result c.from_residual.ensures.1 in
    rw (p.1, p.2) (x_stopped c.args.self.table c.args.self.file.now c.args.start _ c.in_err-x.ensures)

pub returns : goal.returns
returns c =
    let d = c.in_ok-x.ensures in
    x_then c.args.self.table c.args.self.file.now c.args.start _ _ d _ _ (within_back c.args.self.table _ d.inside.2) c.read_y.ensures
