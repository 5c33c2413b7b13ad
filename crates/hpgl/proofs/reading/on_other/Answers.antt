-- `hpgl::reading::on_other` meets its contract. Assumes nothing.
use Rattle.hpgl.specs.ReadingLaws.{good_some}
use Rattle.hpgl.specs.declared.Table.TheVariants.{New}
use Rattle.hpgl.proofs.reading.on_other.Goals as goal

pub value_of-requires : goal.value_of-requires
value_of-requires c = good_some New c.args.n _ _ c.in-Some.is c.requires
