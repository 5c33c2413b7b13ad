-- Where sin, cos and atan2 are their sums of the operand itself, with no size taken and no bound: the short ways of the code. Assumes nothing.
use Rattle.std.specs.Prelude.{◌≡◌, refl, Bool, true, false, not, ◌&&◌, cond, ℕ, zero, suc, ◌+◌, ◌-◌, ◌*◌, ◌<◌, ℤ, ltb, Float}
use Rattle.std.proofs.Common.{sym, ap, ◌∙◌, subst, inl, inr, mul-pos, zero-lt-suc, arith, ltb→lt, nltb→le, T_not, ne_eqb}
use Rattle.std.specs.Bool.{beq}
use Rattle.std.proofs.Math.Dec.{T, not_T}
use Rattle.std.specs.Float.{nan, inf, fin}
use Rattle.std.specs.Float.Ieee.{binary32, up, down, round, sum, of_bits, is_nan, neg, add, sub, mul, div, lt, le, eq, ne}
use Rattle.std.specs.Float.Ieee.Bits.{is_true, is_false}
use Rattle.std.specs.Float.Ieee.Fits.{up_pos, down_pos}
use Rattle.std.specs.Float.Ieee.Scale.{finite}
use Rattle.std.specs.Float.Ieee.Positive.{positive, above_of_le}
use Rattle.laws.specs.Binary32.{◌⊕◌, ◌⊖◌, ◌⊗◌, ◌⊘◌, f32}
use Rattle.laws.specs.Neg.{neg_neg, round_neg, mul_neg, div_neg}
use Rattle.laws.specs.Same.{is_zero, either, null, mul_swap, round_zero}
use Rattle.laws.proofs.Same.{mul_zero_fin, mul_zero_other, not_zero}
use Rattle.laws.specs.NotFinite.{unsigned, unsigned_mul}
use Rattle.laws.specs.Limits.{Small, AtLeast, times, plus, turned, own, under, least_product}
use Rattle.numbers.specs.Words.{sign_of, signed, abs_of}
use Rattle.numbers.specs.Order.{not_lt→le, le_number_left, le_number_right}
use Rattle.numbers.specs.Limits.{abs_small, small_of_abs, abs_unsigned}
use Rattle.trig.specs.Trig.{zero as none, one, minus_one, bounded_of, sin_near, cos_near, sin_of, cos_of, pi, atan_near, angle_of, atan2_of}
use Rattle.trig.specs.Signs.{lt→le, neg_lt, lt_not_le}
use Rattle.trig.specs.TrigLaws.{neg_minus_one}
use Rattle.trig.specs.Limits.{sin_limit, cos_drop, near_small, below_infinity, sin_is, cos_is, cos_near_least, over_minus_one, above_none, bare, slope_none, slope_small, angle_is, nothing_above}

-- ---- the other sign: of one factor it goes to the product, of both it goes away, and of both terms it goes to a sum that is no zero
mul_neg_right : (x y : Float) → x ⊗ neg y ≡ neg (x ⊗ y)
mul_neg_right x y = mul_swap binary32 x (neg y) ∙ mul_neg binary32 y x ∙ ap neg (mul_swap binary32 y x)

both_neg : (x y : Float) → neg x ⊗ neg y ≡ x ⊗ y
both_neg x y = mul_neg binary32 x (neg y) ∙ ap neg (mul_neg_right x y) ∙ neg_neg (x ⊗ y)

-- a difference, where p says that the second is the larger, and q that the first is
apart_neg : (p q s : Bool) (n m c : ℕ) → 0 < c → (T (not p) → T (not q) → m ≡ 0) → T (not (is_zero (cond p (round binary32 (not s) n c) (round binary32 (s && q) m c))))
    → cond p (round binary32 s n c) (round binary32 (not s && q) m c) ≡ neg (cond p (round binary32 (not s) n c) (round binary32 (s && q) m c))
apart_neg true q true n m c C e z = round_neg binary32 false n c
apart_neg true q false n m c C e z = round_neg binary32 true n c
apart_neg false true true n m c C e z = round_neg binary32 true m c
apart_neg false true false n m c C e z = round_neg binary32 false m c
apart_neg false false true n m c C e z = absurd (rw (e tt tt, round_zero binary32 false c C) at z)
apart_neg false false false n m c C e z = absurd (rw (e tt tt, round_zero binary32 false c C) at z)

equal : (a b : ℕ) → T (not (ltb a b)) → T (not (ltb b a)) → a - b ≡ 0
equal a b h l = let p = nltb→le b a l in omega arith

sum_neg : (s t : Bool) (a b c : ℕ) → 0 < c → T (not (is_zero (sum binary32 s a t b c))) → sum binary32 (not s) a (not t) b c ≡ neg (sum binary32 s a t b c)
unfolding sum
sum_neg true true a b c C z = round_neg binary32 true (a + b) c
sum_neg true false a b c C z = apart_neg (ltb a b) (ltb b a) true (b - a) (a - b) c C (equal a b) z
sum_neg false true a b c C z = apart_neg (ltb a b) (ltb b a) false (b - a) (a - b) c C (equal a b) z
sum_neg false false a b c C z = round_neg binary32 false (a + b) c

top_neg : (s t : Bool) → cond (beq (not s) (not t)) (inf (not s)) nan ≡ neg (cond (beq s t) (inf s) nan)
unfolding neg
top_neg true true = refl
top_neg true false = refl
top_neg false true = refl
top_neg false false = refl

add_neg : (x y : Float) → T (not (is_zero (x ⊕ y))) → neg x ⊕ neg y ≡ neg (x ⊕ y)
unfolding add neg
add_neg nan y z = refl
add_neg (inf s) nan z = refl
add_neg (inf s) (inf t) z = top_neg s t
add_neg (inf s) (fin t n d) z = refl
add_neg (fin s m e) nan z = refl
add_neg (fin s m e) (inf t) z = refl
add_neg (fin s m e) (fin t n d) z = sum_neg s t (m * up e * down d) (n * up d * down e) (down e * down d) (mul-pos (down_pos e) (down_pos d)) z

-- so a sum of odd powers has it
odd_sum : (p z t : Float) → T (not (is_zero (p ⊗ (z ⊗ t) ⊕ t))) → p ⊗ (z ⊗ neg t) ⊕ neg t ≡ neg (p ⊗ (z ⊗ t) ⊕ t)
odd_sum p z t h = rw (mul_neg_right z t, mul_neg_right p (z ⊗ t)) (add_neg (p ⊗ (z ⊗ t)) t h)

sin_near_neg : (t : Float) → T (not (is_zero (sin_near t))) → sin_near (neg t) ≡ neg (sin_near t)
unfolding sin_near
sin_near_neg t h = rw (both_neg t t) (odd_sum _ (t ⊗ t) t h)

atan_near_neg : (t : Float) → T (not (is_zero (atan_near t))) → atan_near (neg t) ≡ neg (atan_near t)
unfolding atan_near
atan_near_neg t h = rw (both_neg t t) (odd_sum _ (t ⊗ t) t h)

-- with any sign
at_sign : (f : Float → Float) (s : Bool) (t : Float) → f (neg t) ≡ neg (f t) → f (signed s t) ≡ signed s (f t)
unfolding signed
at_sign f true t h = h
at_sign f false t h = refl

signed_twice : (s : Bool) (v : Float) → signed s (signed s v) ≡ v
unfolding signed
signed_twice true v = neg_neg v
signed_twice false v = refl

both_signed : (s : Bool) (x y : Float) → signed s x ⊗ signed s y ≡ x ⊗ y
unfolding signed
both_signed true x y = both_neg x y
both_signed false x y = refl

abs_square : (x : Float) → abs_of x ⊗ abs_of x ≡ x ⊗ x
unfolding abs_of
abs_square x = both_signed (sign_of x) x x

-- what lies inside the bounds
unbounded : (lo hi v : Float) → T (lt lo v) → T (lt v hi) → bounded_of lo hi v ≡ v
unfolding bounded_of
unbounded lo hi v h l = rw (is_true (lt lo v) h, is_true (lt v hi) l)

-- ---- an angle below 0.78125, by its square
abbrev limit : Float
limit = f32 0x3f480000

abbrev limit_square : Float
limit_square = f32 0x3f1c4000

square_number : (x c : Float) → T (lt (x ⊗ x) c) → T (not (is_nan (abs_of x)))
unfolding mul lt is_nan abs_of signed sign_of neg
square_number nan c h = h
square_number (inf true) c h = tt
square_number (inf false) c h = tt
square_number (fin true m e) c h = tt
square_number (fin false m e) c h = tt

its_square : limit ⊗ limit ≡ limit_square
unfolding of_bits mul
its_square = refl

not_far : (x : Float) → T (lt (x ⊗ x) (limit_square)) → T (not (lt (abs_of x) limit)) → ⊥
not_far x h g =
    let l : AtLeast limit (abs_of x) = record { above = (unfold of_bits in tt); reached = not_lt→le (abs_of x) limit (square_number x (limit_square) h) (unfold of_bits in unfold is_nan in tt) g } in
    let p : T (positive (limit ⊗ limit)) = unfold of_bits in unfold mul in tt in
    let k : T (le (limit_square) (x ⊗ x)) = rw (its_square, abs_square x) at (least_product p l l).reached in
    rw (lt_not_le (x ⊗ x) (limit_square) h) at k

near : (x : Float) → T (lt (x ⊗ x) (limit_square)) → T (lt (abs_of x) limit)
near x h = elim (either (lt (abs_of x) limit)) [ inl l ↦ l | inr g ↦ absurd (not_far x h g) ]

small : (x : Float) → T (lt (x ⊗ x) (limit_square)) → Small limit x
small x h = small_of_abs x limit (unfold of_bits in tt) (lt→le (abs_of x) limit (near x h))

-- ---- sin: no bound is reached, and the sum's sign is the angle's
sin_below : T (lt (sin_limit limit) one)
unfolding sin_limit of_bits add mul lt
sin_below = tt

sin_above : {v : Float} → Small (sin_limit limit) v → T (lt minus_one v)
sin_above {v} h = subst T (neg_lt v minus_one) (rw neg_minus_one (under one sin_below (turned h)))

sin_abs : (x : Float) → T (not (is_zero (sin_near x))) → sin_near (abs_of x) ≡ signed (sign_of x) (sin_near x)
unfolding abs_of
sin_abs x z = at_sign sin_near (sign_of x) x (sin_near_neg x z)

of_near_sin : (x : Float) → T (lt (x ⊗ x) (limit_square)) → T (not (is_zero (sin_near x))) → sin_of x ≡ sin_near x
of_near_sin x h z =
    let l = near x h in
    let v = near_small (abs_small (small x h)) in
    sin_is x (below_infinity (abs_of x) limit l) l
    ∙ ap (signed (sign_of x)) (unbounded minus_one one (sin_near (abs_of x)) (sin_above v) (under one sin_below v) ∙ sin_abs x z)
    ∙ signed_twice (sign_of x) (sin_near x)

pub sin_direct : (x s : Float) → lt (x ⊗ x) (limit_square) ≡ true → s ≡ sin_near x → ne s none ≡ true → s ≡ sin_of x
unfolding of_bits
sin_direct x s h e z = e ∙ sym (of_near_sin x (subst T (sym h) tt) (not_zero (sin_near x) (subst T (sym (rw e at z)) tt)))

-- ---- cos: it is above 0
cos_positive : T (positive (one ⊖ cos_drop limit))
unfolding cos_drop of_bits sub add mul
cos_positive = tt

cos_abs : (x : Float) → cos_near (abs_of x) ≡ cos_near x
unfolding cos_near
cos_abs x = rw (abs_square x)

cos_above : {x : Float} → Small limit x → T (lt minus_one (cos_near x))
cos_above {x} h = let v = cos_near_least cos_positive h in over_minus_one (cos_near x) (above_of_le (one ⊖ cos_drop limit) (cos_near x) v.above v.reached)

of_near_cos : (x : Float) → T (lt (x ⊗ x) (limit_square)) → T (lt (cos_near x) one) → cos_of x ≡ cos_near x
of_near_cos x h t =
    let l = near x h in
    cos_is x (below_infinity (abs_of x) limit l) l ∙ ap (bounded_of minus_one one) (cos_abs x) ∙ unbounded minus_one one (cos_near x) (cos_above (small x h)) t

pub cos_direct : (x c : Float) → lt (x ⊗ x) (limit_square) ≡ true → c ≡ cos_near x → lt c one ≡ true → c ≡ cos_of x
cos_direct x c h e t = e ∙ sym (of_near_cos x (subst T (sym h) tt) (subst T (sym (rw e at t)) tt))

-- ---- the factors of a product above zero: none is a zero, and one has no minus sign if the other has none
no_zero_above : (v : Float) → T (is_zero v) → T (lt none v) → ⊥
unfolding lt of_bits
no_zero_above nan z h = z
no_zero_above (inf s) z h = z
no_zero_above (fin true m e) z h = h
no_zero_above (fin false zero e) z h = rw (null 1 (down e), null (up e) 1) at h
no_zero_above (fin false (suc m) e) z h = z

nan_above : T (lt none nan) → ⊥
unfolding lt of_bits
nan_above h = h

left_not_zero : (x y : Float) → T (lt none (x ⊗ y)) → T (not (is_zero x))
left_not_zero x y h = not_T (is_zero x) (λ z. elim (either (finite y)) [
  | inl f ↦ no_zero_above (x ⊗ y) (mul_zero_fin binary32 x y z f) h
  | inr g ↦ nan_above (rw (mul_zero_other binary32 x y z g) at h)
])

right_not_zero : (x y : Float) → T (lt none (x ⊗ y)) → T (not (is_zero y))
right_not_zero x y h = left_not_zero y x (rw (mul_swap binary32 y x) h)

not_both : (w : Float) → T (unsigned (neg w)) → T (lt none w) → ⊥
unfolding neg lt of_bits
not_both nan u h = h
not_both (inf true) u h = h
not_both (inf false) u h = u
not_both (fin true m e) u h = h
not_both (fin false m e) u h = u

left_unsigned : (v q : Float) → T (unsigned (neg v)) → T (unsigned q) → T (lt none (v ⊗ q)) → ⊥
left_unsigned v q n u h = not_both (v ⊗ q) (rw (mul_neg binary32 v q) at (unsigned_mul binary32 (neg v) q n u)) h

left_above : (v q : Float) → T (unsigned q) → T (lt none (v ⊗ q)) → T (lt none v)
left_above nan q u h = unfold mul in h
left_above (inf true) q u h = absurd (left_unsigned (inf true) q (unfold neg in tt) u h)
left_above (inf false) q u h = unfold lt in unfold of_bits in tt
left_above (fin true m e) q u h = absurd (left_unsigned (fin true m e) q (unfold neg in tt) u h)
left_above (fin false zero e) q u h = absurd (left_not_zero (fin false zero e) q h)
left_above (fin false (suc m) e) q u h = unfold of_bits in above_none m e

-- ---- atan2: the sum with all coefficients positive
unfoldable atan_limit : Float → Float
atan_limit t =
    let z = t ⊗ t in
    let w = z ⊗ z in
    let a = f32 0x3e4cb3a1 ⊗ z ⊕ f32 0x3eaaaa36 in
    let b = f32 0x3dd88ddc ⊗ z ⊕ f32 0x3e1143ad in
    let c = f32 0x3d286f93 ⊗ z ⊕ f32 0x3d96ded7 in
    let d = f32 0x3b2bda54 ⊗ z ⊕ f32 0x3c77eedb in
    (a ⊕ b ⊗ w ⊕ (c ⊕ d ⊗ w) ⊗ (w ⊗ w)) ⊗ (z ⊗ t) ⊕ t

term : (k l : Float) {a z : Float} → T (unsigned k) → T (unsigned l) → Small a z → Small (k ⊗ a ⊕ l) (k ⊗ z ⊕ neg l)
term k l u v h = plus (times (own k u) h) (turned (own l v))

atan_near_small : {a t : Float} → Small a t → Small (atan_limit a) (atan_near t)
unfolding atan_limit atan_near of_bits neg
atan_near_small h =
    let z = times h h in
    let w = times z z in
    let a = term (f32 0x3e4cb3a1) (f32 0x3eaaaa36) tt tt z in
    let b = term (f32 0x3dd88ddc) (f32 0x3e1143ad) tt tt z in
    let c = term (f32 0x3d286f93) (f32 0x3d96ded7) tt tt z in
    let d = term (f32 0x3b2bda54) (f32 0x3c77eedb) tt tt z in
    plus (times (plus (plus a (times b w)) (times (plus c (times d w)) (times w w))) (times z h)) h

atan_below : T (lt (atan_limit one) pi)
unfolding atan_limit of_bits add mul lt
atan_below = tt

-- a point below the diagonal: its angle is the sum of the slope, which is at most 1
record Gentle (y x : Float) : Type 0 where
  bare : T (unsigned (y ⊘ x))
  small : Small one (y ⊘ x)
  angle : angle_of y x ≡ atan_near (y ⊘ x)

not_none : (n : ℕ) (d : ℤ) → eq (fin false (suc n) d) none ≡ false
unfolding eq of_bits
not_none n d = ap (λ (b : Bool). b && true) (ne_eqb (suc n * up d * 1) (0 * 1 * down d) (some (suc n * up d) (down d) (mul-pos (zero-lt-suc n) (up_pos d))))
  where
    some : (v w : ℕ) → 0 < v → v * 1 ≡ 0 * 1 * w → ⊥
    some v w h e = omega arith

gentle : (y x : Float) → T (unsigned y) → T (lt y x) → T (not (is_zero (y ⊘ x))) → Gentle y x
unfolding lt
gentle nan x u h z = absurd h
gentle (inf true) x u h z = absurd u
gentle (inf false) x u h z = absurd (nothing_above x h)
gentle (fin true n d) x u h z = absurd u
gentle (fin false n d) nan u h z = absurd h
gentle (fin false n d) (inf true) u h z = absurd h
gentle (fin false n d) (inf false) u h z = unfold div in absurd z
gentle (fin false n d) (fin true m e) u h z = absurd h
gentle (fin false n d) (fin false zero e) u h z = absurd (none_below (n * up d * down e) (0 * up e * down d) (null (up e) (down d)) (ltb→lt (n * up d * down e) (0 * up e * down d) h))
  where
    none_below : (a b : ℕ) → b ≡ 0 → a < b → ⊥
    none_below a b e h = omega arith
gentle (fin false zero d) (fin false (suc m) e) u h z = absurd (T_not (is_zero (fin false 0 d ⊘ fin false (suc m) e)) z (slope_none 0 d m e refl))
gentle (fin false (suc n) d) (fin false (suc m) e) u h z =
    let g = ltb→lt (suc n * up d * down e) (suc m * up e * down d) h in
    record {
      bare = bare (suc n) d m e;
      small = slope_small (suc n) d m e g;
      angle = angle_is (suc n) d m e g ∙ ap (λ (b : Bool). cond b none (atan_near (fin false (suc n) d ⊘ fin false (suc m) e))) (not_none n d);
    }

abs_number : (x : Float) → T (not (is_nan (abs_of x))) → T (not (is_nan x))
unfolding is_nan abs_of signed sign_of
abs_number nan h = h
abs_number (inf s) h = tt
abs_number (fin s m e) h = tt

-- the slope of y over x, and its sum, are those of the size of y with the sign of y
module _ (y x : Float) (h : T (lt (abs_of y) x)) (p : T (lt none (atan_near (y ⊘ x) ⊗ (y ⊘ x)))) where
  abbrev r : Float
  r = atan_near (y ⊘ x)

  abbrev q : Float
  q = abs_of y ⊘ x

  slope_is : q ≡ signed (sign_of y) (y ⊘ x)
  unfolding abs_of
  slope_is = at_sign (λ v. v ⊘ x) (sign_of y) y (div_neg binary32 y x)

  sum_is : atan_near q ≡ signed (sign_of y) r
  sum_is = ap atan_near slope_is ∙ at_sign atan_near (sign_of y) (y ⊘ x) (atan_near_neg (y ⊘ x) (left_not_zero r (y ⊘ x) p))

  same_sign : T (lt none (atan_near q ⊗ q))
  same_sign = rw (sum_is, slope_is, both_signed (sign_of y) r (y ⊘ x)) p

  its : Gentle (abs_of y) x
  its = gentle (abs_of y) x (abs_unsigned y) h (right_not_zero (atan_near q) q same_sign)

  bounded_is : bounded_of none pi (angle_of (abs_of y) x) ≡ signed (sign_of y) r
  bounded_is =
      ap (bounded_of none pi) its.angle
      ∙ unbounded none pi (atan_near q) (left_above (atan_near q) q its.bare same_sign) (under pi atan_below (atan_near_small its.small))
      ∙ sum_is

  number_x : is_nan x ≡ false
  number_x = is_false (is_nan x) (le_number_right (abs_of y) x (lt→le (abs_of y) x h))

  number_y : is_nan y ≡ false
  number_y = is_false (is_nan y) (abs_number y (le_number_left (abs_of y) x (lt→le (abs_of y) x h)))

  of_near_atan : atan2_of y x ≡ r
  unfolding atan2_of
  of_near_atan = rw (number_y, number_x, bounded_is) (signed_twice (sign_of y) r)

pub atan2_direct : (y x a r : Float) → a ≡ abs_of y → lt a x ≡ true → r ≡ atan_near (y ⊘ x) → lt none (r ⊗ (y ⊘ x)) ≡ true → r ≡ atan2_of y x
atan2_direct y x a r f h e p = e ∙ sym (of_near_atan y x (subst T (sym (rw f at h)) tt) (subst T (sym (rw e at p)) tt))
