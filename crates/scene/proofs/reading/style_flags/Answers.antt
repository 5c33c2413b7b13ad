-- `scene::reading::style_flags` meets its contract. Assumes nothing.
use Rattle.scene.specs.Reading.{flags_of}
use Rattle.scene.proofs.reading.style_flags.Goals as goal

pub returns : goal.returns
unfolding flags_of
returns c = rw (c.word_at.ensures, c.flags_address.ensures)
