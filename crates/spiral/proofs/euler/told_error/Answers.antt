-- `spiral::euler::told_error` meets its contract. Assumes nothing.
use mathlib.Core.Path.{◌≡◌, sym, ◌∙◌, subst}
use mathlib.Core.Bool.{Bool, true}
use lib.Dec.{T}
use lib.Ieee.{Float, of_bits, round, le}
use Rattle.laws.specs.Binary32.{◌⊗◌, dec}
use Rattle.maths.specs.Roots.{hypot_unsigned}
use Rattle.spiral.specs.Judged.{tolerance, stands_itself, close_by, too_far_lem, near_enough}
use Rattle.spiral.proofs.euler.told_error.Goals as goal

so : {b : Bool} → b ≡ true → T b
so e = subst T (sym e) tt

pub returns-then-base-length : goal.returns-then-base-length
unfolding of_bits round
returns-then-base-length c =
    let p = c.requires in
    too_far_lem _ _ _ _ _ _ p.0 p.2 p.3 (so c.if-length.true) (so c.if-scale.true) p.1 (hypot_unsigned _ _) (so c.if-base-length.true)

pub returns-then-most-length : goal.returns-then-most-length
unfolding of_bits round
returns-then-most-length c =
    let p = c.requires in
    let e = c.error_sum-most.ensures in
    rw (e)
    (near_enough _ _ _ _ _ _ p.0 p.2 p.3 (so c.if-length.true) (so c.if-scale.true)
    (dec 25 2) (close_by _ _ (so (sym c.is_close.ensures ∙ c.if-is_close.true)))
    (subst (λ (m : Float). T (le (m ⊗ c.args.length ⊗ c.args.scale) tolerance)) e (so c.if-most-length.true)))

pub returns : goal.returns
returns c = rw (c.error_sum.ensures, c.hypot.ensures) (stands_itself _ _ _)
