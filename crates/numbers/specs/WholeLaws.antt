-- What the floor, the ceiling and the conversions promise. Assumes nothing.
use Rattle.std.specs.Prelude.{◌≡◌, ℕ, zero, suc, ◌+◌, ◌-◌, ◌*◌, ◌/◌, ◌%◌, ◌^◌, ◌<◌, ◌≤◌, min, Bool, true, false, cond, not, T, ◌⊎◌, ℤ, pos, negsuc, neg_ℤ, nat_lt, Float}
use Rattle.std.proofs.Math.Path.{refl}
use Rattle.std.proofs.Common.{sym, ap, ◌∙◌, subst, inl, inr, mul-one, add-zero, mod-lt, div-one, div-add-mod', div-mul-le_self, suc-mul, le_trans, le_of_lt, le_of_eq, div-lt_iff_lt-mul, mul-div_cancel, add-one, arith, ltb→lt, nltb→le, lit≤, pow_pos}
use Rattle.std.proofs.Math.Nat.{pow-succ'}
use Rattle.std.proofs.Math.Arith.{digits_div}
use Rattle.std.specs.Float.{nan, inf, fin, binary32}
use Rattle.std.specs.Float.Ieee.{up, down, round, neg, fits, to_signed, to_unsigned}
use Rattle.std.specs.Float.Ieee.Fits.{down_pos, round-fits, nan-fits, inf-fits}
use Rattle.std.specs.Float.Ieee.Exact.{HasValue}
use Rattle.std.specs.Float.Ieee.Back.{round_whole}
use Rattle.laws.specs.Same.{either}
use Rattle.laws.specs.Own.{fits_says, round_own}
use Rattle.laws.specs.Neg.{neg_neg, round_neg}
use Rattle.numbers.specs.Words.{sign_of}
use Rattle.numbers.specs.Whole.{quot, whole_of, floor_of, ceil_of}

-- ---- the quotient
more : (n d qd r : ℕ) → qd + r ≡ n → qd < n → 0 < d → n + (d - 1) ≡ qd + d + (r - 1)
more n d qd r e h k = omega arith

keep : (n d qd r : ℕ) → qd + r ≡ n → n ≤ qd → n + (d - 1) ≡ qd + (d - 1)
keep n d qd r e h = omega arith

less : (r d : ℕ) → r < d → r - 1 < d
less r d h = omega arith

pred_lt : (d : ℕ) → 0 < d → d - 1 < d
pred_lt d h = omega arith

pub quot_more : (n d : ℕ) → 0 < d → n / d * d < n → quot true n d ≡ n / d + 1
quot_more n d D h =
    let q = n / d in
    let r = n % d in
    ap (λ (z : ℕ). z / d) (more n d (q * d) r (div-add-mod' n d) h D ∙ ap (λ (z : ℕ). z + (r - 1)) (sym (suc-mul q d)))
    ∙ digits_div (suc q) (less r d (mod-lt n D)) ∙ sym (add-one q)

pub quot_same : (n d : ℕ) → 0 < d → n ≤ n / d * d → quot true n d ≡ n / d
quot_same n d D h =
    let q = n / d in
    ap (λ (z : ℕ). z / d) (keep n d (q * d) (n % d) (div-add-mod' n d) h) ∙ digits_div q (pred_lt d D)

below_next : (n d q r : ℕ) → q * d + r ≡ n → r < d → n < (q + 1) * d
below_next n d q r e h = omega arith

-- rounded down it is at most n / d, and one more is above it; rounded up it is at least n / d, and one less is below it
pub quot_down : (n d : ℕ) → 0 < d → (quot false n d * d ≤ n) × (n < (quot false n d + 1) * d)
quot_down n d D = (div-mul-le_self n d, below_next n d (n / d) (n % d) (div-add-mod' n d) (mod-lt n D))

up_more : (n d q k : ℕ) → k ≡ q + 1 → q * d < n → n < (q + 1) * d → (n ≤ k * d) × (k * d < n + d)
up_more n d q k e h l = rw e (omega arith)

up_same : (n d q k : ℕ) → k ≡ q → 0 < d → q * d ≤ n → n ≤ q * d → (n ≤ k * d) × (k * d < n + d)
up_same n d q k e D h l = rw e (omega arith)

pub quot_up : (n d : ℕ) → 0 < d → (n ≤ quot true n d * d) × (quot true n d * d < n + d)
quot_up n d D = let h = quot_down n d D in elim (either (nat_lt (n / d * d) n)) [
  | inl l ↦ let k = ltb→lt (n / d * d) n l in up_more n d (n / d) (quot true n d) (quot_more n d D k) k h.1
  | inr l ↦ let k = nltb→le (n / d * d) n l in up_same n d (n / d) (quot true n d) (quot_same n d D k) D h.0 k
]

quot_one : (u : Bool) (n : ℕ) → quot u n 1 ≡ n
quot_one true n = ap (λ (z : ℕ). z / 1) (add-zero n) ∙ div-one n
quot_one false n = div-one n

one_more_lem : (q b : ℕ) → q < b → q + 1 ≤ b
one_more_lem q b h = omega arith

pub quot_le : (u : Bool) (n d b : ℕ) → 0 < d → n < b * d → quot u n d ≤ b
quot_le false n d b D h = le_of_lt ((div-lt_iff_lt-mul D).1 h)
quot_le true n d b D h = go (either (nat_lt (n / d * d) n)) ((div-lt_iff_lt-mul D).1 h)
  where
    go : T (nat_lt (n / d * d) n) ⊎ T (not (nat_lt (n / d * d) n)) → n / d < b → quot true n d ≤ b
    go (inl l) k = le_trans (le_of_eq (quot_more n d D (ltb→lt (n / d * d) n l))) (one_more_lem (n / d) b k)
    go (inr l) k = le_trans (le_of_eq (quot_same n d D (nltb→le (n / d * d) n l))) (le_of_lt k)

-- ---- from 2 ^ 23 on every float is a whole number
no_fraction : (m p : ℕ) → m < 16777216 → 0 < p → 8388608 * (2 * p) ≤ m * 1 → ⊥
no_fraction m p h k l = omega arith

nothing : (d : ℕ) → 0 < d → 8388608 * d ≤ 0 → ⊥
nothing d h l = omega arith

large_down : (s : Bool) (m : ℕ) (e : ℤ) → T (fits binary32 (fin s m e)) → 8388608 * down e ≤ m * up e → down e ≡ 1
large_down s m (pos k) F l = refl
large_down s zero (negsuc k) F l = absurd (nothing (2 ^ suc k) (pow_pos (suc k)) l)
large_down s (suc m) (negsuc k) F l = absurd (no_fraction (suc m) (2 ^ k) (fits_says binary32 s m (negsuc k) F).small (pow_pos k) (subst (λ (z : ℕ). 8388608 * z ≤ suc m * 1) (pow-succ' 2 k) l))

pub whole_large : (u s : Bool) (m : ℕ) (e : ℤ) → T (fits binary32 (fin s m e)) → 8388608 * down e ≤ m * up e → whole_of u (fin s m e) ≡ fin s m e
unfolding whole_of
whole_large u s m e F l =
    let d = large_down s m e F l in
    ap (λ (z : ℕ). round binary32 s (quot u (m * up e) z) 1) d ∙ ap (λ (z : ℕ). round binary32 s z 1) (quot_one u (m * up e)) ∙ ap (λ (z : ℕ). round binary32 s (m * up e) z) (sym d) ∙ round_own binary32 s m e F

-- ---- the result is exact
pub small : (u s : Bool) (m : ℕ) (e : ℤ) → m * up e < 8388608 * down e → HasValue (whole_of u (fin s m e)) s (quot u (m * up e) (down e)) 1
unfolding whole_of
small u s m e h = round_whole binary32 s (quot u (m * up e) (down e)) (le_trans (quot_le u (m * up e) (down e) 8388608 (down_pos e) h) (lit≤ tt))

large : (u s : Bool) (m : ℕ) (e : ℤ) → T (fits binary32 (fin s m e)) → 8388608 * down e ≤ m * up e → HasValue (whole_of u (fin s m e)) s (quot u (m * up e) (down e)) 1
large u s m e F l =
    let d = large_down s m e F l in
    subst (λ (x : Float). HasValue x s (quot u (m * up e) (down e)) 1) (sym (whole_large u s m e F l))
    (refl, mul-one (m * up e) ∙ sym (quot_one u (m * up e)) ∙ ap (λ (z : ℕ). quot u (m * up e) z) (sym d) ∙ sym (mul-one (quot u (m * up e) (down e))) ∙ ap (λ (z : ℕ). quot u (m * up e) (down e) * z) (sym d))

pub whole_exact : (u s : Bool) (m : ℕ) (e : ℤ) → T (fits binary32 (fin s m e)) → HasValue (whole_of u (fin s m e)) s (quot u (m * up e) (down e)) 1
whole_exact u s m e F = elim (either (nat_lt (m * up e) (8388608 * down e))) [
  | inl h ↦ small u s m e (ltb→lt (m * up e) (8388608 * down e) h)
  | inr h ↦ large u s m e F (nltb→le (m * up e) (8388608 * down e) h)
]

pub floor_exact : (s : Bool) (m : ℕ) (e : ℤ) → T (fits binary32 (fin s m e)) → HasValue (floor_of (fin s m e)) s (quot s (m * up e) (down e)) 1
unfolding floor_of sign_of
floor_exact s m e F = whole_exact s s m e F

pub ceil_exact : (s : Bool) (m : ℕ) (e : ℤ) → T (fits binary32 (fin s m e)) → HasValue (ceil_of (fin s m e)) s (quot (not s) (m * up e) (down e)) 1
unfolding ceil_of sign_of
ceil_exact s m e F = whole_exact (not s) s m e F

pub ceil_nan : ceil_of nan ≡ nan
unfolding ceil_of whole_of
ceil_nan = refl

-- ---- the other sign
pub whole_neg : (u : Bool) (x : Float) → whole_of u (neg x) ≡ neg (whole_of u x)
unfolding whole_of neg
whole_neg u nan = refl
whole_neg u (inf s) = refl
whole_neg u (fin s m e) = round_neg binary32 s (quot u (m * up e) (down e)) 1

-- the ceiling of -x is minus the floor of x, and the floor minus the ceiling
pub ceil_neg : (x : Float) → ceil_of (neg x) ≡ neg (floor_of x)
unfolding ceil_of floor_of neg sign_of whole_of
ceil_neg nan = refl
ceil_neg (inf s) = refl
ceil_neg (fin true m e) = whole_neg true (fin true m e)
ceil_neg (fin false m e) = whole_neg false (fin false m e)

pub floor_neg : (x : Float) → floor_of (neg x) ≡ neg (ceil_of x)
floor_neg x = sym (neg_neg (floor_of (neg x))) ∙ ap neg (sym (ceil_neg (neg x))) ∙ ap (λ (v : Float). neg (ceil_of v)) (neg_neg x)

-- ---- the result is a float
whole_fits : (u : Bool) (x : Float) → T (fits binary32 (whole_of u x))
unfolding whole_of
whole_fits u nan = nan-fits binary32
whole_fits u (inf s) = inf-fits binary32 s
whole_fits u (fin s m e) = round-fits binary32 s (quot u (m * up e) (down e)) 1

pub floor_fits : (x : Float) → T (fits binary32 (floor_of x))
unfolding floor_of
floor_fits x = whole_fits (sign_of x) x

pub ceil_fits : (x : Float) → T (fits binary32 (ceil_of x))
unfolding ceil_of
ceil_fits x = whole_fits (not (sign_of x)) x

-- ---- as an integer: nothing is left to truncate
value_quot : (m : ℕ) (e : ℤ) (q : ℕ) → m * up e * 1 ≡ q * down e → m * up e / down e ≡ q
value_quot m e q h = ap (λ (z : ℕ). z / down e) (sym (mul-one (m * up e)) ∙ h) ∙ mul-div_cancel q (down_pos e)

-- ---- as integers: brought to the nearest end of the range: of h bits and a sign, or of w bits. A NaN's is 0
unfoldable pub whole_signed : Bool → ℕ → Float → ℤ
whole_signed u h nan = pos 0
whole_signed u h (inf s) = cond s (neg_ℤ (pos (2 ^ h))) (pos (2 ^ h - 1))
whole_signed u h (fin s m e) = cond s (neg_ℤ (pos (min (quot u (m * up e) (down e)) (2 ^ h)))) (pos (min (quot u (m * up e) (down e)) (2 ^ h - 1)))

unfoldable pub floor_signed : ℕ → Float → ℤ
floor_signed h x = whole_signed (sign_of x) h x

unfoldable pub ceil_signed : ℕ → Float → ℤ
ceil_signed h x = whole_signed (not (sign_of x)) h x

unfoldable pub ceil_unsigned : ℕ → Float → ℕ
ceil_unsigned w nan = 0
ceil_unsigned w (inf s) = cond s 0 (2 ^ w - 1)
ceil_unsigned w (fin s m e) = cond s 0 (min (quot true (m * up e) (down e)) (2 ^ w - 1))

value_signed : (h : ℕ) (y : Float) (s : Bool) (q : ℕ) → HasValue y s q 1 → to_signed h y ≡ cond s (neg_ℤ (pos (min q (2 ^ h)))) (pos (min q (2 ^ h - 1)))
unfolding to_signed
value_signed h nan s q v = absurd v
value_signed h (inf t) s q v = absurd v
value_signed h (fin t m e) s q v =
    ap (λ (z : Bool). cond z (neg_ℤ (pos (min (m * up e / down e) (2 ^ h)))) (pos (min (m * up e / down e) (2 ^ h - 1)))) v.0
    ∙ ap (λ (z : ℕ). cond s (neg_ℤ (pos (min z (2 ^ h)))) (pos (min z (2 ^ h - 1)))) (value_quot m e q v.1)

value_unsigned : (w : ℕ) (y : Float) (s : Bool) (q : ℕ) → HasValue y s q 1 → to_unsigned w y ≡ cond s 0 (min q (2 ^ w - 1))
unfolding to_unsigned
value_unsigned w nan s q v = absurd v
value_unsigned w (inf t) s q v = absurd v
value_unsigned w (fin t m e) s q v =
    ap (λ (z : Bool). cond z 0 (min (m * up e / down e) (2 ^ w - 1))) v.0
    ∙ ap (λ (z : ℕ). cond s 0 (min z (2 ^ w - 1))) (value_quot m e q v.1)

pub whole_signed_lem : (u : Bool) (h : ℕ) (x : Float) → T (fits binary32 x) → to_signed h (whole_of u x) ≡ whole_signed u h x
unfolding whole_signed
whole_signed_lem u h nan F = unfold to_signed whole_of in refl
whole_signed_lem u h (inf s) F = unfold to_signed whole_of in refl
whole_signed_lem u h (fin s m e) F = value_signed h (whole_of u (fin s m e)) s (quot u (m * up e) (down e)) (whole_exact u s m e F)

pub floor_signed_lem : (h : ℕ) (x : Float) → T (fits binary32 x) → to_signed h (floor_of x) ≡ floor_signed h x
unfolding floor_of floor_signed
floor_signed_lem h x F = whole_signed_lem (sign_of x) h x F

pub ceil_signed_lem : (h : ℕ) (x : Float) → T (fits binary32 x) → to_signed h (ceil_of x) ≡ ceil_signed h x
unfolding ceil_of ceil_signed
ceil_signed_lem h x F = whole_signed_lem (not (sign_of x)) h x F

pub ceil_unsigned_lem : (w : ℕ) (x : Float) → T (fits binary32 x) → to_unsigned w (ceil_of x) ≡ ceil_unsigned w x
unfolding ceil_of ceil_unsigned sign_of
ceil_unsigned_lem w nan F = unfold to_unsigned whole_of in refl
ceil_unsigned_lem w (inf s) F = unfold to_unsigned whole_of in refl
ceil_unsigned_lem w (fin true m e) F = value_unsigned w (whole_of false (fin true m e)) true (quot false (m * up e) (down e)) (whole_exact false true m e F)
ceil_unsigned_lem w (fin false m e) F = value_unsigned w (whole_of true (fin false m e)) false (quot true (m * up e) (down e)) (whole_exact true false m e F)
