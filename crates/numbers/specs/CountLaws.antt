-- A count of lines is a ceiling brought into 1 to 100: of what is at most 1, it is 1. Assumes nothing.
use Rattle.std.specs.Prelude.{◌≡◌, ℕ, zero, suc, ◌+◌, ◌*◌, ◌<◌, ◌≤◌, Bool, true, false, not, ℤ, refl}
use Rattle.std.proofs.Common.{lt_of_mul-lt-mul_right, arith}
use Rattle.std.specs.Float.{fin, binary32}
use Rattle.std.specs.Float.Ieee.{up, down, round, lt}
use Rattle.std.specs.Float.Ieee.Fits.{down_pos}
use Rattle.laws.specs.Binary32.{whole}
use Rattle.numbers.specs.Words.{sign_of}
use Rattle.numbers.specs.Select.{clamp_of}
use Rattle.numbers.specs.Whole.{quot, whole_of, ceil_of}
use Rattle.numbers.specs.WholeLaws.{quot_down, quot_up}

twice_up : (k n d : ℕ) → k < n + d → n ≤ d → k < 2 * d
twice_up k n d h l = omega arith

twice_down : (k n d : ℕ) → k ≤ n → n ≤ d → 0 < d → k < 2 * d
twice_down k n d h l D = omega arith

quot_one : (u : Bool) (n d : ℕ) → 0 < d → n ≤ d → quot u n d < 2
quot_one true n d D l = lt_of_mul-lt-mul_right d (twice_up (quot true n d * d) n d (quot_up n d D).1 l)
quot_one false n d D l = lt_of_mul-lt-mul_right d (twice_down (quot false n d * d) n d (quot_down n d D).0 l D)

large : (q : ℕ) → suc (suc q) < 2 → ⊥
large q h = omega arith

counted : (s : Bool) (q : ℕ) → q < 2 → clamp_of (round binary32 s q 1) (whole 1) (whole 100) ≡ whole 1
unfolding clamp_of lt round
counted true zero h = refl
counted false zero h = refl
counted true (suc zero) h = refl
counted false (suc zero) h = refl
counted s (suc (suc q)) h = absurd (large q h)

pub one_of_ceil : (s : Bool) (m : ℕ) (e : ℤ) → m * up e ≤ down e → clamp_of (ceil_of (fin s m e)) (whole 1) (whole 100) ≡ whole 1
unfolding ceil_of whole_of sign_of
one_of_ceil s m e h = counted s (quot (not s) (m * up e) (down e)) (quot_one (not s) (m * up e) (down e) (down_pos e) h)
