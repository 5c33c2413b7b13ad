-- `scene::reading::point_count` meets its contract. Assumes nothing.
use Rattle.std.proofs.Common.{arith}
use Rattle.scene.specs.Reading.{point_count}
use Rattle.scene.proofs.reading.point_count.Goals as goal

pub returns-then-kind-eq0 : goal.returns-then-kind-eq0
unfolding point_count
returns-then-kind-eq0 c = omega arith

pub returns-else-kind-eq0 : goal.returns-else-kind-eq0
unfolding point_count
returns-else-kind-eq0 c = omega arith
