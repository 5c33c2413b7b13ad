-- `sheets::tags::write_tags` meets its contract. Assumes nothing.
use Rattle.sheets.proofs.Laws.{Copied}
use Rattle.sheets.specs.Written.{turned_tag}
use Rattle.sheets.proofs.tags.write_tags.Given as goal

abbrev pub invariant-loop-i : goal.invariant-loop-i
invariant-loop-i l = Copied (turned_tag l.to_f32) l.tags l.initial.out l.out l.i
