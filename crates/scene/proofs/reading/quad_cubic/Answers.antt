-- `scene::reading::quad_cubic` meets its contract. Assumes nothing.
use lib.Ieee.{of_bits, round}
use Rattle.scene.specs.Reading.{quad_cubic}
use Rattle.scene.proofs.reading.quad_cubic.Goals as goal

pub returns : goal.returns
unfolding quad_cubic of_bits round
returns c = rw (c.mix.ensures, c.mix-2.ensures)
