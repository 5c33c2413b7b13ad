-- `hpgl::write_number` meets its contract. Assumes nothing.
use Rattle.hpgl.specs.Text.{decimal, numeral, signed_of}
use Rattle.hpgl.specs.TextLaws.{same_room, same_stored, dash_room, dash_index, dash_stored, numeral_zero, numeral_plus, numeral_minus}
use Rattle.hpgl.proofs.text.write_number.Goals as goal

pub write_decimal-requires : goal.write_decimal-requires
write_decimal-requires c =
    same_room (numeral (signed_of c.args.n.negative c.args.n.size)) (decimal c.args.n.size) c.args.at _ (numeral_zero c.args.n.negative c.args.n.size c.if-size-eq0.true) c.requires

pub returns-then-size-eq0 : goal.returns-then-size-eq0
returns-then-size-eq0 c =
    same_stored _ _ c.args.at _ (numeral (signed_of c.args.n.negative c.args.n.size)) (decimal c.args.n.size) (numeral_zero c.args.n.negative c.args.n.size c.if-size-eq0.true) c.write_decimal.ensures

pub bounds-out-at : goal.bounds-out-at
bounds-out-at c =
    dash_index c.args.out.now (numeral (signed_of c.args.n.negative c.args.n.size)) (decimal c.args.n.size) c.args.at (numeral_minus c.args.n.negative c.args.n.size c.if-n.true c.if-size-eq0.false) c.requires

pub write_decimal-requires-then-n : goal.write_decimal-requires-then-n
write_decimal-requires-then-n c =
    dash_room c.args.out.now (numeral (signed_of c.args.n.negative c.args.n.size)) (decimal c.args.n.size) c.args.at (numeral_minus c.args.n.negative c.args.n.size c.if-n.true c.if-size-eq0.false) c.requires

pub returns-then-n : goal.returns-then-n
returns-then-n c =
    dash_stored c.args.out.now _ c.args.at _ 45 (numeral (signed_of c.args.n.negative c.args.n.size)) (decimal c.args.n.size) (numeral_minus c.args.n.negative c.args.n.size c.if-n.true c.if-size-eq0.false) c.write_decimal-then-n.ensures

pub write_decimal-requires-2 : goal.write_decimal-requires-2
write_decimal-requires-2 c =
    same_room (numeral (signed_of c.args.n.negative c.args.n.size)) (decimal c.args.n.size) c.args.at _ (numeral_plus c.args.n.negative c.args.n.size c.if-n.false) c.requires

pub returns : goal.returns
returns c =
    same_stored _ _ c.args.at _ (numeral (signed_of c.args.n.negative c.args.n.size)) (decimal c.args.n.size) (numeral_plus c.args.n.negative c.args.n.size c.if-n.false) c.write_decimal-2.ensures
