-- `scene::reading::all_finite` meets its contract. Assumes nothing.
use Rattle.std.proofs.Common.{rules, tests}
use Rattle.std.proofs.lemmas.Iterator.{YieldsList-from_slice}
use Rattle.std.proofs.lemmas.Iterator.Search.{all_from_yields_List}
use Rattle.std.specs.Float.Ieee.Scale.{finite}
use Rattle.scene.specs.Reading.{all_finite}
use Rattle.scene.proofs.reading.all_finite.Goals as goal

pub returns : goal.returns
unfolding all_finite
returns c = all_from_yields_List finite _ _ _ c.all.ensures.ran (YieldsList-from_slice c.args.z cc) (λ x b q k. search (rules, tests))
