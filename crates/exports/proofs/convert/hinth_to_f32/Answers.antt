-- `exports::convert::hinth_to_f32` meets its contract. Assumes nothing.
use Rattle.exports.proofs.Converted.{reported}
use Rattle.exports.proofs.convert.hinth_to_f32.Goals as goal

pub returns : goal.returns
returns c =
    reported c.to_f32.result c.from-told.result _ _ c.to_f32.ensures c.from-told.ensures c.put_told.ensures
