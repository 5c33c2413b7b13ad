-- `scene::reading::line_cubic` meets its contract. Assumes nothing.
use lib.Ieee.{of_bits, round}
use Rattle.scene.specs.Reading.{line_cubic}
use Rattle.scene.proofs.reading.line_cubic.Goals as goal

pub returns : goal.returns
unfolding line_cubic of_bits round
returns c = rw (c.mix.ensures, c.mix-2.ensures)
