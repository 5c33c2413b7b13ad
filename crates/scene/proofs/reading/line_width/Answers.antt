-- `scene::reading::line_width` meets its contract. Assumes nothing.
use Rattle.std.proofs.Common.{arith}
use Rattle.std.proofs.lemmas.Grind.{common_steps}
use Rattle.scene.specs.Reading.{width_of}
use Rattle.scene.proofs.reading.line_width.Goals as goal

pub returns-then-at-gt4294967295 : goal.returns-then-at-gt4294967295
unfolding width_of
returns-then-at-gt4294967295 c = grind (arith, common_steps)

pub returns : goal.returns
unfolding width_of
returns c = grind (arith, common_steps)
