-- `sheets::points::half_of` meets its contract. Assumes nothing.
use Rattle.sheets.proofs.Halves.{candidate_by}
use Rattle.sheets.proofs.points.half_of.Goals as goal

pub returns : goal.returns
returns c = candidate_by c.args.w c.float_of-x.ensures c.is_negative-negative.ensures c.abs.ensures c.to_u32-size.ensures c.bits_of.ensures
