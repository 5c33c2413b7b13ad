-- `scene::reading::read_floats` meets its contract. Assumes nothing.
use Rattle.scene.specs.Reading.{floats_at}
use Rattle.scene.proofs.reading.read_floats.Goals as goal

pub returns : goal.returns
unfolding floats_at
returns c =
    rw (c.float_at.ensures, c.float_at-2.ensures, c.float_at-3.ensures, c.float_at-4.ensures, c.float_at-5.ensures, c.float_at-6.ensures)
