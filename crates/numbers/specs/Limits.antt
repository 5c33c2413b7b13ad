-- The sizes and the larger of numbers that are held to limits. Assumes nothing.
use Rattle.std.proofs.Common.{subst}
use Rattle.std.specs.Prelude.{Bool, true, false, T, Float}
use Rattle.std.specs.Float.{nan, inf, fin}
use Rattle.std.specs.Float.Ieee.{neg, lt, le}
use Rattle.std.specs.Float.Ieee.Positive.{positive}
use Rattle.laws.specs.Binary32.{◌⊘◌, whole}
use Rattle.laws.specs.Neg.{neg_neg}
use Rattle.laws.specs.NotFinite.{unsigned}
use Rattle.laws.specs.Limits.{Small, AtLeast, turned, under, compared, raised, below_limit, no_minus_over, of_fraction, positive_above, quotient_under}
use Rattle.numbers.specs.Words.{sign_of, signed, abs_of}
use Rattle.numbers.specs.WordsLaws.{abs_not_below}
use Rattle.numbers.specs.Select.{max_of}
use Rattle.numbers.specs.SelectLaws.{max_left}
use Rattle.numbers.specs.Order.{le_number_right}

pub signed_small : (s : Bool) {a x : Float} → Small a x → Small a (signed s x)
unfolding signed
signed_small true h = turned h
signed_small false h = h

pub abs_small : {a x : Float} → Small a x → Small a (abs_of x)
unfolding abs_of
abs_small {a} {x} h = signed_small (sign_of x) h

pub abs_under : {a x : Float} (c : Float) → T (lt a c) → Small a x → T (lt (abs_of x) c)
abs_under c l h = under c l (abs_small h)

small_signed : (s : Bool) (a x : Float) → Small a (signed s x) → Small a x
unfolding signed
small_signed true a x h = subst (λ (v : Float). Small a v) (neg_neg x) (turned h)
small_signed false a x h = h

abs_back : (a x : Float) → Small a (abs_of x) → Small a x
unfolding abs_of
abs_back a x h = small_signed (sign_of x) a x h

pub small_of_abs : (x c : Float) → T (unsigned c) → T (le (abs_of x) c) → Small c x
small_of_abs x c u l = abs_back c x (compared (abs_of x) c (abs_not_below x) u l)

pub max_least : {a x : Float} (y : Float) → AtLeast a x → AtLeast a (max_of x y)
max_least {a} {x} y h = raised (max_left x y (le_number_right a x h.reached)) h

pub abs_unsigned : (x : Float) → T (unsigned (abs_of x))
unfolding abs_of sign_of signed neg
abs_unsigned nan = tt
abs_unsigned (inf true) = tt
abs_unsigned (inf false) = tt
abs_unsigned (fin true m e) = tt
abs_unsigned (fin false m e) = tt

-- a slope below a limit of less than 1: y is no larger than x
pub slope_under : (y x a : Float) → T (positive x) → T (lt (abs_of y ⊘ x) a) → T (unsigned a) → T (lt a (whole 1)) → Small x y
slope_under y x a p h f l =
    abs_back x y (record {
      held = of_fraction x (abs_of y) p (quotient_under (abs_of y) x (abs_not_below y) p
          (below_limit (abs_of y ⊘ x) a (whole 1) (no_minus_over (abs_of y) x (abs_unsigned y) (positive_above x p)) f h l));
    })
