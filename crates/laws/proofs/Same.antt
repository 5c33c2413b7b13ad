-- The laws of `Same`: the rounded operations respect it, and adding +0 turns it into equality. Every law holds in both formats. Assumes nothing.
use Rattle.std.specs.Prelude.{◌≡◌, refl, Bool, true, false, not, cond, ℕ, zero, suc, ◌*◌, ◌<◌, T, ltb, eqb, Float}
use Rattle.std.proofs.Common.{sym, ap, ◌∙◌, subst, inl, inr, zero-mul, zero-add, mul_assoc, mul-pos, zero-lt-suc, lt→ltb, T_not}
use Rattle.std.specs.Bool.{beq}
use Rattle.std.proofs.Math.Nat.{sub-zero}
use Rattle.std.proofs.Math.Dec.{eqb_refl}
use Rattle.std.specs.Float.{nan, inf, fin, Format}
use Rattle.std.specs.Float.Ieee.{up, down, unlike, round, sum, add, mul, eq, ne, is_nan}
use Rattle.std.specs.Float.Ieee.Fits.{up_pos, down_pos, and_i}
use Rattle.std.specs.Float.Ieee.Scale.{round_same, finite}
use Rattle.laws.specs.Same.{is_zero, Same, same_refl, same_trans, either, round_zero, mul_swap, null, again, add_swap, plus_zero, row_of, or_true}

-- ---- small things
round_zero_is : (f : Format) (s : Bool) (a c : ℕ) → 0 < c → a ≡ 0 → T (is_zero (round f s a c))
round_zero_is f s a c C p = rw (p, round_zero f s c C) tt

-- ---- the product
pub mul_zero_fin : (f : Format) (x y : Float) → T (is_zero x) → T (finite y) → T (is_zero (mul f x y))
unfolding mul
mul_zero_fin f nan y z h = absurd z
mul_zero_fin f (inf s) y z h = absurd z
mul_zero_fin f (fin s (suc m) e) y z h = absurd z
mul_zero_fin f (fin s zero e) nan z h = absurd h
mul_zero_fin f (fin s zero e) (inf t) z h = absurd h
mul_zero_fin f (fin s zero e) (fin t n d) z h = round_zero_is f (unlike s t) (0 * up e * (n * up d)) (down e * down d) (mul-pos (down_pos e) (down_pos d)) (null (up e) (n * up d))

pub mul_zero_other : (f : Format) (x y : Float) → T (is_zero x) → T (not (finite y)) → mul f x y ≡ nan
unfolding mul
mul_zero_other f nan y z h = absurd z
mul_zero_other f (inf s) y z h = absurd z
mul_zero_other f (fin s (suc m) e) y z h = absurd z
mul_zero_other f (fin s zero e) nan z h = refl
mul_zero_other f (fin s zero e) (inf t) z h = refl
mul_zero_other f (fin s zero e) (fin t n d) z h = absurd h

pub same_mul_left : (f : Format) (x x' y : Float) → Same x x' → Same (mul f x y) (mul f x' y)
same_mul_left f x x' y (inl p) = inl (ap (λ (z : Float). mul f z y) p)
same_mul_left f x x' y (inr z) = elim (either (finite y)) [
  | inl h ↦ inr (mul_zero_fin f x y z.0 h, mul_zero_fin f x' y z.1 h)
  | inr h ↦ inl (mul_zero_other f x y z.0 h ∙ sym (mul_zero_other f x' y z.1 h))
]

pub same_mul : (f : Format) (x x' y y' : Float) → Same x x' → Same y y' → Same (mul f x y) (mul f x' y')
same_mul f x x' y y' p q = same_trans (same_mul_left f x x' y p) (rw (mul_swap f x' y, mul_swap f x' y') (same_mul_left f y y' x' q))

cond_yes : {X : Type 0} (b : Bool) (x y : X) → T b → cond b x y ≡ x
cond_yes true x y t = refl
cond_yes false x y t = absurd t

sum_zero_left : (f : Format) (s t : Bool) (b c : ℕ) → 0 < b → sum f s 0 t b c ≡ round f t b c
unfolding sum
sum_zero_left f true true b c h = ap (λ (z : ℕ). round f true z c) (zero-add b)
sum_zero_left f false false b c h = ap (λ (z : ℕ). round f false z c) (zero-add b)
sum_zero_left f true false b c h = cond_yes (ltb 0 b) _ _ (lt→ltb 0 b h) ∙ ap (λ (z : ℕ). round f false z c) (sub-zero b)
sum_zero_left f false true b c h = cond_yes (ltb 0 b) _ _ (lt→ltb 0 b h) ∙ ap (λ (z : ℕ). round f true z c) (sub-zero b)

sum_zeros : (f : Format) (s t : Bool) (c : ℕ) → 0 < c → T (is_zero (sum f s 0 t 0 c))
unfolding sum
sum_zeros f true true c C = round_zero_is f true 0 c C refl
sum_zeros f false false c C = round_zero_is f false 0 c C refl
sum_zeros f true false c C = round_zero_is f false 0 c C refl
sum_zeros f false true c C = round_zero_is f false 0 c C refl

pub add_zeros : (f : Format) (x y : Float) → T (is_zero x) → T (is_zero y) → T (is_zero (add f x y))
unfolding add
add_zeros f nan y z w = absurd z
add_zeros f (inf s) y z w = absurd z
add_zeros f (fin s (suc m) e) y z w = absurd z
add_zeros f (fin s zero e) nan z w = absurd w
add_zeros f (fin s zero e) (inf t) z w = absurd w
add_zeros f (fin s zero e) (fin t (suc n) d) z w = absurd w
add_zeros f (fin s zero e) (fin t zero d) z w =
    rw (null (up e) (down d), null (up d) (down e)) (sum_zeros f s t (down e * down d) (mul-pos (down_pos e) (down_pos d)))

-- a zero and another value: the other
pub add_zero_other : (f : Format) (x y : Float) → T (is_zero x) → T (not (is_zero y)) → add f x y ≡ again f y
unfolding add
add_zero_other f nan y z w = absurd z
add_zero_other f (inf s) y z w = absurd z
add_zero_other f (fin s (suc m) e) y z w = absurd z
add_zero_other f (fin s zero e) nan z w = refl
add_zero_other f (fin s zero e) (inf t) z w = refl
add_zero_other f (fin s zero e) (fin t zero d) z w = absurd w
add_zero_other f (fin s zero e) (fin t (suc n) d) z w =
    ap (λ (a : ℕ). sum f s a t (suc n * up d * down e) (down e * down d)) (null (up e) (down d))
    ∙ sum_zero_left f s t (suc n * up d * down e) (down e * down d) (mul-pos (mul-pos (zero-lt-suc n) (up_pos d)) (down_pos e))
    ∙ round_same f t (suc n * up d * down e) (down e * down d) (suc n * up d) (down d) (mul-pos (down_pos e) (down_pos d)) (down_pos d) (mul_assoc (suc n * up d) (down e) (down d))

pub same_add_left : (f : Format) (x x' y : Float) → Same x x' → Same (add f x y) (add f x' y)
same_add_left f x x' y (inl p) = inl (ap (λ (z : Float). add f z y) p)
same_add_left f x x' y (inr z) = elim (either (is_zero y)) [
  | inl h ↦ inr (add_zeros f x y z.0 h, add_zeros f x' y z.1 h)
  | inr h ↦ inl (add_zero_other f x y z.0 h ∙ sym (add_zero_other f x' y z.1 h))
]

pub same_add : (f : Format) (x x' y y' : Float) → Same x x' → Same y y' → Same (add f x y) (add f x' y')
same_add f x x' y y' p q = same_trans (same_add_left f x x' y p) (rw (add_swap f x' y, add_swap f x' y') (same_add_left f y y' x' q))

-- ---- adding +0 leaves one zero
sum_plus_zero : (f : Format) (s : Bool) (c : ℕ) → 0 < c → sum f s 0 false 0 c ≡ plus_zero
unfolding sum
sum_plus_zero f true c C = round_zero f false c C
sum_plus_zero f false c C = round_zero f false c C

pub zero_plus_zero : (f : Format) (x : Float) → T (is_zero x) → add f x plus_zero ≡ plus_zero
unfolding add
zero_plus_zero f nan z = absurd z
zero_plus_zero f (inf s) z = absurd z
zero_plus_zero f (fin s (suc m) e) z = absurd z
zero_plus_zero f (fin s zero e) z = ap (λ (a : ℕ). sum f s a false (0 * down e) (down e * 1)) (null (up e) 1) ∙ ap (λ (a : ℕ). sum f s 0 false a (down e * 1)) (zero-mul (down e)) ∙ sum_plus_zero f s (down e * 1) (mul-pos (down_pos e) (zero-lt-suc 0))

-- the law that makes shared points meet bit for bit
pub same_plus_zero : (f : Format) (x x' : Float) → Same x x' → add f x plus_zero ≡ add f x' plus_zero
same_plus_zero f x x' (inl p) = ap (λ (z : Float). add f z plus_zero) p
same_plus_zero f x x' (inr z) = zero_plus_zero f x z.0 ∙ sym (zero_plus_zero f x' z.1)

-- ---- a row of an affine transform
pub same_row : (f : Format) (a b c x x' y y' : Float) → Same x x' → Same y y' → Same (row_of f a b c x y) (row_of f a b c x' y')
same_row f a b c x x' y y' p q =
    same_add_left f (add f (mul f a x) (mul f b y)) (add f (mul f a x') (mul f b y')) c
    (same_add f (mul f a x) (mul f a x') (mul f b y) (mul f b y') (same_mul f a a x x' (same_refl a) p) (same_mul f b b y y' (same_refl b) q))

-- where the row's constant is +0, as in the identity, it is the same bits
pub same_row_exact : (f : Format) (a b x x' y y' : Float) → Same x x' → Same y y' → row_of f a b plus_zero x y ≡ row_of f a b plus_zero x' y'
same_row_exact f a b x x' y y' p q =
    same_plus_zero f (add f (mul f a x) (mul f b y)) (add f (mul f a x') (mul f b y'))
    (same_add f (mul f a x) (mul f a x') (mul f b y) (mul f b y') (same_mul f a a x x' (same_refl a) p) (same_mul f b b y y' (same_refl b) q))

-- ---- `Same` and the program's `==`
same_eq_refl : (x : Float) → T (not (is_nan x)) → T (eq x x)
unfolding eq is_nan
same_eq_refl nan h = absurd h
same_eq_refl (inf true) h = tt
same_eq_refl (inf false) h = tt
same_eq_refl (fin true m e) h = and_i (eqb (m * up e * down e) (m * up e * down e)) true (eqb_refl (m * up e * down e)) tt
same_eq_refl (fin false m e) h = and_i (eqb (m * up e * down e) (m * up e * down e)) true (eqb_refl (m * up e * down e)) tt

same_eq_zeros : (x y : Float) → T (is_zero x) → T (is_zero y) → T (eq x y)
unfolding eq
same_eq_zeros nan y z w = absurd z
same_eq_zeros (inf s) y z w = absurd z
same_eq_zeros (fin s (suc m) e) y z w = absurd z
same_eq_zeros (fin s zero e) nan z w = absurd w
same_eq_zeros (fin s zero e) (inf t) z w = absurd w
same_eq_zeros (fin s zero e) (fin t (suc n) d) z w = absurd w
same_eq_zeros (fin s zero e) (fin t zero d) z w = rw (null (up e) (down d), null (up d) (down e)) (or_true (beq s t))

pub same→eq : (x y : Float) → T (not (is_nan x)) → Same x y → T (eq x y)
same→eq x y h (inl p) = subst (λ (z : Float). T (eq x z)) p (same_eq_refl x h)
same→eq x y h (inr z) = same_eq_zeros x y z.0 z.1

pub not_zero : (x : Float) → T (ne x plus_zero) → T (not (is_zero x))
unfolding is_nan ne
not_zero nan h = tt
not_zero (inf s) h = tt
not_zero (fin s zero e) h = absurd (T_not (eq (fin s zero e) plus_zero) h (same→eq (fin s zero e) plus_zero tt (inr (tt, tt))))
not_zero (fin s (suc m) e) h = tt
