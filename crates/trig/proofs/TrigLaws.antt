-- The sine is odd, bit for bit, and of an angle it is a number. Assumes nothing.
use Rattle.std.specs.Prelude.{◌≡◌, not, T, Float}
use Rattle.std.specs.Float.Ieee.{is_nan, neg, lt}
use Rattle.std.specs.Float.Ieee.Scale.{finite}
use Rattle.numbers.specs.Words.{abs_of}
use Rattle.trig.specs.Trig.{infinity, sin_of}
use Rattle.trig.specs.Signs.{sign_neg, abs_neg, signed_not, within_number}
use Rattle.trig.specs.TrigLaws.{sin_nan, neg_cond, odd, sin_range}

-- ---- sin is odd and cos even, bit for bit; asin is odd, and atan2 in y
sin_odd_number : (x : Float) → T (not (is_nan x)) → sin_of (neg x) ≡ neg (sin_of x)
unfolding sin_of
sin_odd_number x h = rw (abs_neg x, sign_neg x h, signed_not) (neg_cond (lt (abs_of x) infinity) _)

pub sin_odd : (x : Float) → sin_of (neg x) ≡ neg (sin_of x)
sin_odd = odd sin_of sin_nan sin_odd_number

-- ---- so they are numbers
pub sin_number : (x : Float) → T (finite x) → T (not (is_nan (sin_of x)))
sin_number x h = within_number (sin_range x h)
