-- `hpgl::write_command` meets its contract. Assumes nothing.
use Rattle.hpgl.specs.CommandLaws.{room_p, room_letter, room_x, room_y, command_stored}
use Rattle.hpgl.proofs.text.write_command.Goals as goal

pub write_byte-a-requires : goal.write_byte-a-requires
write_byte-a-requires c =
    room_p c.letter_of-l.result c.args.draws c.args.to c.letter_of-l.ensures c.args.out.now c.args.at c.requires

pub write_byte-b-requires : goal.write_byte-b-requires
write_byte-b-requires c =
    room_letter c.letter_of-l.result c.args.draws c.args.to c.letter_of-l.ensures c.args.out.now c.args.at c.requires c.write_byte-a.new.out c.write_byte-a.result c.write_byte-a.ensures c.write_byte-a.auto.out

pub write_ended-c-requires : goal.write_ended-c-requires
write_ended-c-requires c =
    room_x c.letter_of-l.result c.args.draws c.args.to c.letter_of-l.ensures c.args.out.now c.args.at c.requires c.write_byte-a.new.out c.write_byte-a.result c.write_byte-a.ensures c.write_byte-a.auto.out c.write_byte-b.new.out c.write_byte-b.result c.write_byte-b.ensures c.write_byte-b.auto.out

pub write_ended-requires : goal.write_ended-requires
write_ended-requires c =
    room_y c.letter_of-l.result c.args.draws c.args.to c.letter_of-l.ensures c.args.out.now c.args.at c.requires c.write_byte-a.new.out c.write_byte-a.result c.write_byte-a.ensures c.write_byte-a.auto.out c.write_byte-b.new.out c.write_byte-b.result c.write_byte-b.ensures c.write_byte-b.auto.out c.write_ended-c.new.out c.write_ended-c.result c.write_ended-c.ensures c.write_ended-c.auto.out

pub returns : goal.returns
returns c =
    command_stored c.letter_of-l.result c.args.draws c.args.to c.letter_of-l.ensures c.args.out.now c.args.at c.requires c.write_byte-a.new.out c.write_byte-a.result c.write_byte-a.ensures c.write_byte-a.auto.out c.write_byte-b.new.out c.write_byte-b.result c.write_byte-b.ensures c.write_byte-b.auto.out c.write_ended-c.new.out c.write_ended-c.result c.write_ended-c.ensures c.write_ended-c.auto.out c.write_ended.new.out c.write_ended.result c.write_ended.ensures
