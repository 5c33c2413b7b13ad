-- `trig::sin` meets its contract. Assumes nothing.
use mathlib.Core.Path.{◌≡◌, refl}
use mathlib.Core.Bool.{Bool, true, false, cond}
use native.Mathlib.Nat.{add-zero}
use lib.Ieee.{Float, nan, neg}
use Rattle.numbers.specs.Words.{signed}
use Rattle.trig.specs.Trig.{sin_of}
use Rattle.trig.proofs.Direct.{sin_direct}
use Rattle.trig.proofs.sin.Goals as goal

-- a NaN has no sign
apart : (b s : Bool) (v : Float) → signed s (cond b v nan) ≡ cond b (signed s v) nan
unfolding signed neg
apart true s v = refl
apart false true v = refl
apart false false v = refl

pub returns-then-s : goal.returns-then-s
returns-then-s c = sin_direct _ _ c.if-x.true c.sin_near-s.ensures c.if-s.true

pub returns : goal.returns
unfolding sin_of
returns c = rw (c.turned.ensures, c.curve.ensures, add-zero, apart, c.abs.ensures, c.is_negative.ensures)
