-- `lists::mixed` meets its contract. Assumes nothing.
use mathlib.Core.Path.{refl}
use Rattle.lists.specs.Lists.{mixed_of}
use Rattle.lists.proofs.mixed.Goals as goal

pub returns : goal.returns
unfolding mixed_of
returns c = refl
