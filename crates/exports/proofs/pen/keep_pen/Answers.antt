-- `exports::pen::keep_pen` meets its contract. Assumes nothing.
use mathlib.Core.Path.{ap}
use mathlib.Core.List.{List, ◌++◌}
use Prim.Native.Nat.{ℕ}
use Rattle.std.specs.Prelude.{Err}
use Rattle.pattern.specs.Commands.{number_of}
use Rattle.exports.specs.Pen.{kept_by, penned}
use Rattle.exports.proofs.Pens.{put_front, kept_old}
use Rattle.exports.proofs.pen.keep_pen.Goals as goal

pub returns-in-Ok : goal.returns-in-Ok
unfolding number_of kept_by
returns-in-Ok c pen rest tags points = rw (c.in-Ok.is, c.put_pen.ensures, put_front c.args.words.now rest c.in-Ok.pen c.told-words)

pub returns-in-Err : goal.returns-in-Err
returns-in-Err c pen rest tags points =
    rw (c.in-Err.is, c.number.ensures)
    (ap (λ (ws : List ℕ). penned (number_of (Err c.in-Err.fault)) ws tags points) (kept_old c.in-Err.fault pen (c.args.words.now ++ rest)))
