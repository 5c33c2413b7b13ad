-- `hpgl::rounding::aim_at` meets its contract. Assumes nothing.
use Rattle.hpgl.specs.Form.{range_of}
use Rattle.hpgl.specs.Bits.{aims_to}
use Rattle.hpgl.proofs.rounding.aim_at.Goals as goal

pub returns : goal.returns
returns c = aims_to (range_of c.args.table) c.args.x c.args.y _ _ c.in_ok-x.ensures c.in_ok-y.ensures
