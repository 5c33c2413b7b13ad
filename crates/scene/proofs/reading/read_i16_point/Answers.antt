-- `scene::reading::read_i16_point` meets its contract. Assumes nothing.
use Rattle.scene.specs.Reading.{i16_point}
use Rattle.scene.proofs.reading.read_i16_point.Goals as goal

pub returns : goal.returns
unfolding i16_point
returns c = rw (c.i16_of-x.ensures, c.i16_of-y.ensures)
