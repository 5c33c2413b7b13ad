-- `exports::convert::hinth_to_i16` meets its contract. Assumes nothing.
use Rattle.exports.proofs.Converted.{reported}
use Rattle.exports.proofs.convert.hinth_to_i16.Goals as goal

pub returns : goal.returns
returns c =
    reported c.to_i16.result c.from-back.result _ _ c.to_i16.ensures c.from-back.ensures c.put_told.ensures
