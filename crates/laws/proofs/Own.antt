-- A sum with a zero leaves a value that a format holds as it is. Hence the identity transform gives a finite point back, with +0 for a zero. Assumes nothing.
use Rattle.std.specs.Prelude.{◌≡◌, not, T, Float}
use Rattle.std.proofs.Common.{ap, ◌∙◌}
use Rattle.std.specs.Float.{nan, Format}
use Rattle.std.specs.Float.Ieee.{add, mul, fits}
use Rattle.std.specs.Float.Ieee.Scale.{finite}
use Rattle.laws.specs.Nan.{nan_add, add_nan}
use Rattle.laws.specs.Same.{is_zero, plus_zero, one, row_of, add_swap}
use Rattle.laws.proofs.Same.{add_zero_other, add_zeros, mul_zero_fin, mul_zero_other, zero_plus_zero}
use Rattle.laws.specs.Own.{again_own, one_mul_own}

-- ---- one and zero as operands
pub zero_add_own : (f : Format) (z x : Float) → T (is_zero z) → T (not (is_zero x)) → T (fits f x) → add f z x ≡ x
zero_add_own f z x h k t = add_zero_other f z x h k ∙ again_own f x t

pub add_zero_own : (f : Format) (x z : Float) → T (is_zero z) → T (not (is_zero x)) → T (fits f x) → add f x z ≡ x
add_zero_own f x z h k t = add_swap f x z ∙ zero_add_own f z x h k t

-- ---- the identity transform. Its first row is (1, 0, 0), and its second (0, 1, 0)
pub identity_x : (f : Format) (x y : Float) → T (fits f x) → T (finite y) → T (not (is_zero x)) → row_of f one plus_zero plus_zero x y ≡ x
identity_x f x y t h k =
    ap (λ (z : Float). add f (add f z (mul f plus_zero y)) plus_zero) (one_mul_own f x t)
    ∙ ap (λ (z : Float). add f z plus_zero) (add_zero_own f x (mul f plus_zero y) (mul_zero_fin f plus_zero y tt h) k t)
    ∙ add_zero_own f x plus_zero tt k t

pub identity_x_zero : (f : Format) (x y : Float) → T (fits f x) → T (finite y) → T (is_zero x) → row_of f one plus_zero plus_zero x y ≡ plus_zero
identity_x_zero f x y t h k =
    ap (λ (z : Float). add f (add f z (mul f plus_zero y)) plus_zero) (one_mul_own f x t)
    ∙ zero_plus_zero f (add f x (mul f plus_zero y)) (add_zeros f x (mul f plus_zero y) k (mul_zero_fin f plus_zero y tt h))

row_swap : (f : Format) (a b c x y : Float) → row_of f a b c x y ≡ row_of f b a c y x
row_swap f a b c x y = ap (λ (z : Float). add f z c) (add_swap f (mul f a x) (mul f b y))

pub identity_y : (f : Format) (x y : Float) → T (fits f y) → T (finite x) → T (not (is_zero y)) → row_of f plus_zero one plus_zero x y ≡ y
identity_y f x y t h k = row_swap f plus_zero one plus_zero x y ∙ identity_x f y x t h k

pub identity_y_zero : (f : Format) (x y : Float) → T (fits f y) → T (finite x) → T (is_zero y) → row_of f plus_zero one plus_zero x y ≡ plus_zero
identity_y_zero f x y t h k = row_swap f plus_zero one plus_zero x y ∙ identity_x_zero f y x t h k

-- what is no number, or infinite, leaves a NaN in the other coordinate
pub identity_nan_x : (f : Format) (x y : Float) → T (not (finite y)) → row_of f one plus_zero plus_zero x y ≡ nan
identity_nan_x f x y h = rw (mul_zero_other f plus_zero y tt h, add_nan f (mul f one x), nan_add f plus_zero)

pub identity_nan_y : (f : Format) (x y : Float) → T (not (finite x)) → row_of f plus_zero one plus_zero x y ≡ nan
identity_nan_y f x y h = row_swap f plus_zero one plus_zero x y ∙ identity_nan_x f y x h
