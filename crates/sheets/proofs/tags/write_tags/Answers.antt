-- `sheets::tags::write_tags` meets its contract. Assumes nothing.
use mathlib.Core.Path.{refl}
use native.Mathlib.Omega.{arith}
use Rattle.sheets.proofs.Laws.{copied_next}
use Rattle.sheets.specs.Written.{movable}
use Rattle.sheets.specs.Back.{all_says}
use Rattle.sheets.proofs.tags.write_tags.Goals as goal

pub turned_tag-requires : goal.turned_tag-requires
turned_tag-requires c = all_says (movable c.args.to_f32) c.args.tags.now c.requires.tags_value c.loop-i.i (omega arith)

pub loop-i-preserved : goal.loop-i-preserved
loop-i-preserved c = copied_next c.loop-i.invariant (omega arith) c.requires.tags_in_bounds c.turned_tag.ensures refl
