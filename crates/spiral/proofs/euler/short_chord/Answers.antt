-- `spiral::euler::short_chord` meets its contract. Assumes nothing.
use lib.Ieee.{of_bits, round}
use Rattle.spiral.specs.Euler.{short_chord}
use Rattle.spiral.proofs.euler.short_chord.Goals as goal

pub returns : goal.returns
unfolding short_chord of_bits round
returns c = rw (c.sqrt.ensures, c.length_squared-2.ensures, c.length_squared.ensures)
