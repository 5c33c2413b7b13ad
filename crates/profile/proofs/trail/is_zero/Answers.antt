-- `profile::trail::is_zero` meets its contract. Assumes nothing.
use lib.Ieee.{of_bits, round}
use Rattle.profile.specs.Rules.{is_zero}
use Rattle.profile.proofs.trail.is_zero.Goals as goal

pub returns : goal.returns
unfolding is_zero of_bits round
returns c = rw c.float_of.ensures
