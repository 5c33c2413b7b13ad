-- `scene::reading::i16_of` meets its contract. Assumes nothing.
use Rattle.std.proofs.Common.{◌≡◌, ◌+◌, ◌-◌, arith, le-ltb, lt-ltb}
use Rattle.scene.specs.Reading.{i16_of}
use Rattle.scene.proofs.reading.i16_of.Goals as goal

pub returns-then-half-lt32768 : goal.returns-then-half-lt32768
unfolding i16_of
returns-then-half-lt32768 c = rw (lt-ltb _ _ c.if-half-lt32768.true)

pub returns : goal.returns
unfolding i16_of
returns c =
    let h = c.args.half in
    let size : 65535 - h + 1 ≡ 65536 - h = omega arith in
    rw (size, le-ltb _ _ c.if-half-lt32768.false)
