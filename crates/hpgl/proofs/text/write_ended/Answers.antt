-- `hpgl::write_ended` meets its contract. Assumes nothing.
use mathlib.Core.List.{[], ◌∷◌}
use Rattle.hpgl.specs.Text.{numeral, signed_of}
use Rattle.hpgl.specs.TextLaws.{then_stored}
use Rattle.hpgl.proofs.text.write_ended.Goals as goal

pub returns : goal.returns
returns c =
    then_stored c.args.out.now c.write_number-end.new.out c.write_byte.new.out c.args.at c.write_number-end.result c.write_byte.result (numeral (signed_of c.args.n.negative c.args.n.size)) (c.args.b ∷ []) c.write_number-end.ensures c.write_byte.ensures
