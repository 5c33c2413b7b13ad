-- `exports::profiling::hinth_profile` meets its contract. Assumes nothing.
use Rattle.exports.proofs.Profiled.{reported}
use Rattle.exports.proofs.profiling.hinth_profile.Goals as goal

pub returns : goal.returns
returns c = reported c.test_scene.result _ c.from-told.result _ c.test_scene.ensures c.from-told.ensures c.put_told.ensures
