-- The steps of a coordinate are its value, and the distance is one. Assumes nothing.
use Rattle.std.specs.Prelude.{ℕ, zero, suc, ◌+◌, ◌/◌, ◌%◌, ◌^◌, ◌≡◌, Bool, true, false, cond, eqb, leb, Float}
use Rattle.std.proofs.Common.{ap, ◌∙◌, arith}
use Rattle.std.specs.Float.{binary32}
use Rattle.std.specs.Float.Ieee.{of_bits, of_fields}
use Rattle.std.specs.Float.Ieee.Exact.{HasValue, odd_sign}
use Rattle.records.specs.Record.{is_bad}
use Rattle.records.specs.Numbers.{bad_bits}
use Rattle.mender.specs.Near.{steps_of, steps, minus, apart}

pub apart_same : (s : Bool) (m : ℕ) → apart s m s m ≡ 0
unfolding apart
apart_same true m = omega arith
apart_same false m = omega arith

pub apart_back : (s t : Bool) (m n : ℕ) → apart s m t n ≡ apart t n s m
unfolding apart
apart_back true true m n = omega arith
apart_back true false m n = omega arith
apart_back false true m n = omega arith
apart_back false false m n = omega arith

value_if : (b s : Bool) (v : Float) (u : Float) (a c : ℕ) → b ≡ false → HasValue v s a c → HasValue (cond b u v) s a c
value_if true s v u a c h k = let z : ◌≡◌ {A = ℕ} 0 1 = cc in absurd (omega arith)
value_if false s v u a c h k = k

fields : (s : Bool) (x t : ℕ) → eqb x 255 ≡ false → HasValue (of_fields binary32 s x t) s (steps_of x t) (2 ^ 149)
unfolding of_fields steps_of
fields s zero t h = odd_sign 24 s t 0 149
fields s (suc x) t h = value_if (eqb (suc x) 255) s _ _ _ _ h (odd_sign 24 s (8388608 + t) x 149)

field : (w : ℕ) → w % 2147483648 / 8388608 ≡ w / 8388608 % 256
field w = omega arith

-- a coordinate that is no bad number is its sign and so many times 2^-149
pub steps_value : (w : ℕ) → is_bad w ≡ false → HasValue (of_bits binary32 w) (minus w) (steps w) (2 ^ 149)
unfolding of_bits minus steps
steps_value w h = fields (leb 2147483648 w) (w % 2147483648 / 8388608) (w % 8388608) (ap (λ (x : ℕ). eqb x 255) (field w) ∙ bad_bits w ∙ h)
