-- `hpgl::text::command_length` meets its contract. Assumes nothing.
use Rattle.hpgl.specs.CommandLaws.{command_size}
use Rattle.hpgl.proofs.text.command_length.Goals as goal

pub returns : goal.returns
returns c = command_size c.args.draws c.args.to c.number_length.result c.number_length-2.result c.number_length.ensures.is c.number_length-2.ensures.is
