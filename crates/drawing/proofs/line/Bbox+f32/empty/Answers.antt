-- `drawing::line::Bbox<f32>::empty` meets its contract. Assumes nothing.
use mathlib.Core.Path.{refl}
use lib.Ieee.{of_bits, nan_bits}
use Rattle.drawing.specs.Page.{empty_reach}
use Rattle.drawing.proofs.line.Bbox+f32.empty.Goals as goal

pub float_from_bits-least : goal.float_from_bits-least
unfolding nan_bits
float_from_bits-least c = tt

pub float_from_bits-most : goal.float_from_bits-most
unfolding nan_bits
float_from_bits-most c = tt

pub returns : goal.returns
unfolding empty_reach of_bits
returns c = refl
