-- `scene::reading::read_point` meets its contract. Assumes nothing.
use Rattle.std.proofs.Common.{◌≡◌, ◌+◌, ◌*◌, ◌≤◌, length, arith}
use Rattle.scene.specs.Reading.{point_words, point_at}
use Rattle.scene.proofs.reading.read_point.Goals as goal

pub returns-then-wide : goal.returns-then-wide
unfolding point_words point_at
returns-then-wide c = rw c.if-wide.true c.read_f32_point.ensures

pub returns-else-wide : goal.returns-else-wide
unfolding point_words point_at
returns-else-wide c =
    let j = c.args.j in
    let once : j * 1 ≡ j = omega arith in
    rw (c.if-wide.false, once) c.read_i16_point.ensures

pub read_f32_point-requires : goal.read_f32_point-requires
unfolding point_words
read_f32_point-requires c =
    let wide_room : c.args.at + (c.args.j + 1) * 2 ≤ length c.args.words.now = rw c.if-wide.true at c.requires.1 in
    omega (arith, wide_room)

pub read_i16_point-requires : goal.read_i16_point-requires
unfolding point_words
read_i16_point-requires c =
    let narrow_room : c.args.at + (c.args.j + 1) * 1 ≤ length c.args.words.now = rw c.if-wide.false at c.requires.1 in
    omega (arith, narrow_room)
