-- `scene::reading::read_cubic` meets its contract. Assumes nothing.
use Rattle.std.proofs.Common.{◌≡◌, arith}
use lib.Ieee.{of_bits, round}
use Rattle.scene.specs.Reading.{point_count, raised, cubic_of}
use Rattle.scene.proofs.Points.{room}
use Rattle.scene.proofs.reading.read_cubic.Goals as goal

pub read_point-p0-requires : goal.read_point-p0-requires
unfolding point_count
read_point-p0-requires c = (omega arith, room c.args.kind 0 _ _ _ (omega arith) c.requires.1)

pub read_point-p1-requires : goal.read_point-p1-requires
unfolding point_count
read_point-p1-requires c = (omega arith, room c.args.kind 1 _ _ _ (omega arith) c.requires.1)

pub returns-then-kind-eq0 : goal.returns-then-kind-eq0
unfolding cubic_of raised of_bits round
returns-then-kind-eq0 c = rw (c.if-kind-eq0.true, c.read_point-p0.ensures, c.read_point-p1.ensures, c.new-zero.ensures)

pub returns-then-kind-eq1 : goal.returns-then-kind-eq1
unfolding cubic_of raised
returns-then-kind-eq1 c =
    rw (c.if-kind-eq1.true, c.line_cubic.ensures, c.read_point-p0.ensures, c.read_point-p1.ensures)

pub read_point-p2-requires : goal.read_point-p2-requires
unfolding point_count
read_point-p2-requires c =
    (omega arith, room c.args.kind 2 _ _ _ (omega arith) c.requires.1)

pub returns-then-marker : goal.returns-then-marker
unfolding cubic_of raised
returns-then-marker c =
    rw (c.if-kind-eq2.true, c.if-marker.true, c.line_cubic-then-marker.ensures, c.read_point-p1.ensures, c.read_point-p2.ensures)

pub returns-then-kind-eq2 : goal.returns-then-kind-eq2
unfolding cubic_of raised
returns-then-kind-eq2 c =
    rw (c.if-kind-eq2.true, c.if-marker.false, c.quad_cubic.ensures, c.read_point-p0.ensures, c.read_point-p1.ensures, c.read_point-p2.ensures)

pub read_point-p3-requires : goal.read_point-p3-requires
unfolding point_count
read_point-p3-requires c =
    (omega arith, room c.args.kind 3 _ _ _ (omega arith) c.requires.1)

pub returns : goal.returns
unfolding cubic_of raised
returns c =
    let cubic : c.args.kind ≡ 3 = omega arith in
    rw (cubic, c.read_point-p0.ensures, c.read_point-p1.ensures, c.read_point-p2.ensures, c.read_point-p3.ensures)
