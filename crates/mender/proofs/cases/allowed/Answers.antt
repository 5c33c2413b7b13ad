-- `mender::cases::allowed` meets its contract. Assumes nothing.
use mathlib.Core.Path.{refl}
use Rattle.mender.specs.Sought.{allowed_point}
use Rattle.mender.proofs.cases.allowed.Goals as goal

pub returns : goal.returns
unfolding allowed_point
returns c = refl
