-- `hpgl::reading::Reader::read_command` meets its contract. Assumes nothing.
use Rattle.hpgl.specs.ReadingLaws.{no_p, stops_short, letter_up, letter_down, no_letter}
use Rattle.hpgl.proofs.reading.Reader.read_command.Goals as goal

pub returns-then-self-at-ne80 : goal.returns-then-self-at-ne80
returns-then-self-at-ne80 c = no_p c.args.self.table c.args.self.file.now c.args.at c.requires c.args.stand c.if-self-at-ne80.true

pub returns-then-self-at-lt2 : goal.returns-then-self-at-lt2
returns-then-self-at-lt2 c = stops_short c.args.self.table c.args.self.file.now c.args.at c.requires c.args.stand c.if-self-at-ne80.false c.if-self-at-lt2.true

pub returns-then-letter-eq85 : goal.returns-then-letter-eq85
returns-then-letter-eq85 c = letter_up c.args.self.table c.args.self.file.now c.args.at c.requires c.args.stand c.if-self-at-ne80.false c.if-self-at-lt2.false c.if-letter-eq85.true _ c.pen_up.ensures

pub returns-then-letter-eq68 : goal.returns-then-letter-eq68
returns-then-letter-eq68 c = letter_down c.args.self.table c.args.self.file.now c.args.at c.requires c.args.stand c.if-self-at-ne80.false c.if-self-at-lt2.false c.if-letter-eq68.true _ c.pen_down.ensures

pub returns : goal.returns
returns c = no_letter c.args.self.table c.args.self.file.now c.args.at c.requires c.args.stand c.if-self-at-ne80.false c.if-self-at-lt2.false c.if-letter-eq85.false c.if-letter-eq68.false
