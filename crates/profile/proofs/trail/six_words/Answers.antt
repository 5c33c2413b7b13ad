-- `profile::trail::six_words` meets its contract. Assumes nothing.
use mathlib.Core.Path.{refl}
use Rattle.profile.specs.Rules.{six_at}
use Rattle.profile.proofs.trail.six_words.Goals as goal

pub returns : goal.returns
unfolding six_at
returns c = refl
