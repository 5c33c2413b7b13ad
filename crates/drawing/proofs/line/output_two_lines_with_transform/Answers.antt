-- `drawing::line::output_two_lines_with_transform` meets its contract. Assumes nothing.
use Rattle.drawing.specs.PageLaws.{then}
use Rattle.drawing.proofs.line.output_two_lines_with_transform.Goals as goal

pub returns : goal.returns
returns c = then c.output_line_with_transform-first.ensures c.output_line_with_transform.ensures
