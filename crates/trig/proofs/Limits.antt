-- How large the sine of a small angle is at most. Assumes nothing.
use Rattle.std.specs.Prelude.{Float}
use Rattle.std.proofs.Common.{sym}
use Rattle.std.proofs.Math.Path.{subst}
use Rattle.std.proofs.Math.Dec.{T}
use Rattle.std.specs.Float.Ieee.{lt}
use Rattle.laws.specs.Binary32.{f32}
use Rattle.laws.specs.Limits.{Small}
use Rattle.numbers.specs.Words.{sign_of}
use Rattle.numbers.specs.Limits.{signed_small, abs_small, abs_under}
use Rattle.trig.specs.Trig.{infinity, sin_of}
use Rattle.trig.specs.Limits.{within_ones, sin_limit, near_small, below_infinity, sin_is}

-- ---- sin: its sum with all coefficients positive, of what the angle is at most
pub sin_small : {a x : Float} → T (lt a (f32 0x3f480000)) → Small a x → Small (sin_limit a) (sin_of x)
sin_small {a} {x} l h =
    subst (λ (v : Float). Small (sin_limit a) v) (sym (sin_is x (abs_under infinity (below_infinity a (f32 0x3f480000) l) h) (abs_under (f32 0x3f480000) l h)))
    (signed_small (sign_of x) (within_ones (near_small (abs_small h))))
