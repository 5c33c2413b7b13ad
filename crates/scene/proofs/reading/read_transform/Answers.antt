-- `scene::reading::read_transform` meets its contract. Assumes nothing.
use Rattle.std.proofs.Common.{◌+◌, ◌*◌, ◌^◌, ◌<◌, arith, le-ltb, lt-ltb, le-leb}
use borrow.Author.Tests.{lt-leb}
use Rattle.scene.specs.Reading.{transform_of}
use Rattle.scene.proofs.reading.read_transform.Goals as goal
use Rattle.scene.proofs.reading.read_transform.Goals.{else-at-le4294967295-via-then-at-le4294967295+else-at-scene, else-at-le4294967295-via-else-at-le4294967295}

pub returns-then-at-scene : goal.returns-then-at-scene
unfolding transform_of
returns-then-at-scene c =
    let a = c.args in
    let small : a.transform_base + a.trans_ix * 6 < 2 ^ 32 = omega arith in
    rw (lt-ltb _ _ small, le-leb _ _ c.if-at-scene.true, c.read_floats.ensures)

pub returns : goal.returns
unfolding transform_of
returns c =
    elim c.else-at-le4294967295.branch [
      | else-at-le4294967295-via-then-at-le4294967295+else-at-scene w ↦
          let a = c.args in
          let small : a.transform_base + a.trans_ix * 6 < 2 ^ 32 = omega arith in
          rw (lt-ltb _ _ small, lt-leb _ _ w.if-at-scene.false)
      | else-at-le4294967295-via-else-at-le4294967295 w ↦ rw (le-ltb _ _ w.if-at-le4294967295.false)
    ]
