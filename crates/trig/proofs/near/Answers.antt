-- `trig::near` meets its contract. Assumes nothing.
use mathlib.Core.Path.{◌≡◌, refl}
use Prim.Native.Nat.{ℕ, zero, suc, ◌≤◌, ◌<◌}
use native.Mathlib.Nat.{lt_irrefl}
use native.Mathlib.Omega.{arith}
use lib.Ieee.{Float, of_bits, neg}
use Rattle.numbers.specs.Words.{signed}
use Rattle.trig.specs.Trig.{one, minus_one, bounded_of, sin_near, cos_near, curve_of, wave_of}
use Rattle.trig.proofs.near.Goals as goal

sine : (on : ℕ) (r : Float) → on ≡ 0 → bounded_of minus_one one (sin_near r) ≡ wave_of on r
unfolding wave_of curve_of signed
sine zero r is_zero = refl
sine (suc on) r is_zero = absurd (lt_irrefl 0 (omega (arith, is_zero)))

cosine : (on : ℕ) (r : Float) → on ≤ 1 → 0 < on → bounded_of minus_one one (cos_near r) ≡ wave_of on r
unfolding wave_of curve_of signed
cosine zero r h positive = absurd (lt_irrefl 0 positive)
cosine (suc zero) r h positive = refl
cosine (suc (suc on)) r h positive = absurd (lt_irrefl 0 (omega (arith, h)))

pub returns-then-on-eq0 : goal.returns-then-on-eq0
unfolding of_bits neg
returns-then-on-eq0 c = rw (c.bounded.ensures, c.sin_near.ensures) (sine c.args.on c.args.r c.if-on-eq0.true)

pub returns-else-on-eq0 : goal.returns-else-on-eq0
unfolding of_bits neg
returns-else-on-eq0 c = rw (c.bounded-else-on-eq0.ensures, c.cos_near.ensures) (cosine c.args.on c.args.r c.requires (omega (arith, c.if-on-eq0.false)))
