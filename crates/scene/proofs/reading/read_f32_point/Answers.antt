-- `scene::reading::read_f32_point` meets its contract. Assumes nothing.
use Rattle.scene.specs.Reading.{f32_point}
use Rattle.scene.proofs.reading.read_f32_point.Goals as goal

pub returns : goal.returns
unfolding f32_point
returns c = rw (c.float_at-x.ensures, c.float_at-y.ensures)
