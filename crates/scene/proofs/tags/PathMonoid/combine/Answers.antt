-- `scene::tags::PathMonoid::combine` meets its contract. Assumes nothing.
use Rattle.scene.specs.Tags.{plus}
use Rattle.scene.proofs.tags.PathMonoid.combine.Goals as goal

pub returns : goal.returns
unfolding plus
returns c = rw (c.wrapping_add_u32.ensures.value, c.wrapping_add_u32-2.ensures.value, c.wrapping_add_u32-3.ensures.value, c.wrapping_add_u32-4.ensures.value)
