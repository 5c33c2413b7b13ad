-- `hpgl::reading::Reader::read_y` meets its contract. Assumes nothing.
use Rattle.std.proofs.lemmas.Result.{err_from_is_err_and}
use Rattle.hpgl.specs.ReadingLaws.{y_at, y_stopped}
use Rattle.hpgl.proofs.Signed.{within_back}
use Rattle.hpgl.proofs.reading.Reader.read_y.Goals as goal

pub returns-in_err-y : goal.returns-in_err-y
returns-in_err-y c =
    let p = err_from_is_err_and c.from_residual.result c.from_residual.ensures.1 in
    rw (p.1, p.2) (y_stopped c.args.self.table c.args.self.file.now c.args.start c.args.x _ c.in_err-y.ensures)

pub returns : goal.returns
returns c =
    let d = c.in_ok-y.ensures in
    rw (within_back c.args.self.table c.args.x c.requires.1, within_back c.args.self.table _ d.inside.2) (y_at c.args.self.table c.args.self.file.now c.args.start c.args.x _ _ d)
