-- `profile::sheet::no_trail` meets its contract. Assumes nothing.
use lib.Ieee.{of_bits, round}
use Rattle.profile.specs.Trail.{no_trail}
use Rattle.profile.proofs.sheet.no_trail.Goals as goal

pub returns : goal.returns
unfolding no_trail of_bits round
returns c = rw c.new-start.ensures
