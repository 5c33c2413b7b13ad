-- `spiral::euler::fitted_error` meets its contract. Assumes nothing.
use mathlib.Core.Path.{◌≡◌, sym, subst}
use lib.Dec.{T}
use lib.Ieee.{Float, of_bits, round, binary32}
use lib.Ieee.Fits.{add-fits}
use Rattle.laws.specs.NotFinite.{unsigned}
use Rattle.maths.specs.Numbers.{abs_of, abs_unsigned}
use Rattle.spiral.specs.Euler.{fitted_error}
use Rattle.spiral.specs.Judged.{error_sum, base_own}
use Rattle.spiral.proofs.euler.fitted_error.Goals as goal

plain : (x : Float) {v : Float} → v ≡ abs_of x → T (unsigned v)
plain x e = subst (λ (w : Float). T (unsigned w)) (sym e) (abs_unsigned x)

pub told_error-requires : goal.told_error-requires
unfolding of_bits round
told_error-requires c =
    let a = plain _ c.abs-aerr.ensures in
    let b = plain _ c.abs-symm.ensures in
    let d = plain _ c.abs-asymm.ensures in
    (base_own _ _ _ b d a, add-fits binary32 _ _, b, d)

pub returns : goal.returns
unfolding fitted_error error_sum of_bits round
returns c =
    rw (← c.max.ensures, ← c.max-2.ensures, ← c.sin-s0.ensures, ← c.sin-s1.ensures, ← c.abs-aerr.ensures, ← c.abs-symm.ensures, ← c.abs-asymm.ensures)
    c.told_error.ensures
