-- `scene::tags::tag_data` meets its contract. Assumes nothing.
use Rattle.std.proofs.Common.{lit≤}
use Rattle.scene.proofs.Laws.{less_is}
use Rattle.scene.specs.Tags.{tag_data}
use Rattle.scene.proofs.tags.tag_data.Goals as goal

pub returns : goal.returns
unfolding tag_data
returns c =
    rw (less_is c.wrapping_sub_u32.type_inv (lit≤ tt) c.wrapping_sub_u32.ensures.value, less_is c.wrapping_sub_u32-2.type_inv (lit≤ tt) c.wrapping_sub_u32-2.ensures.value)
