-- `scene::tags::byte_at` meets its contract. Assumes nothing.
use Rattle.std.proofs.Common.{refl}
use Rattle.scene.specs.Tags.{byte_at}
use Rattle.scene.proofs.tags.byte_at.Goals as goal

pub returns : goal.returns
unfolding byte_at
returns c = refl
