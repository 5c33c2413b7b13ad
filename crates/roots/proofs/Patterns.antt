-- What a pattern stands for, as a magnitude in units of 2 ^ -149 and a sign; and the roots of values given so. Assumes nothing.
use Rattle.std.proofs.Common.{◌≡◌, ℕ, zero, suc, ◌+◌, ◌-◌, ◌*◌, ◌/◌, ◌%◌, ◌^◌, ◌<◌, ◌≤◌, Bool, true, false, cond, not, T, eqb, ltb, leb, sym, refl, ap, ◌∙◌, subst, lt_irrefl, zero-lt-suc, add_comm, mul-pos, zero-add, zero-mul, mul-one, arith, leb→le, nltb→le, pow_pos, le-ltb, lt-ltb, ne_eqb}
use lib.Dec.{nleb→lt}
use lib.Ieee.{Float, nan, inf, fin, binary32, binary64, up, down, odd, of_bits, to_bits, of_fields, fits, is_nan, nan_bits, ne}
use lib.Ieee.Compare.{differs_from_itself}
use lib.Ieee.Exact.{HasValue, odd_sign}
use lib.Ieee.Fits.{down_pos, up_pos}
use lib.Ieee.Bits.{of_bits-to_bits, to_bits-lt, nan_bits_is, nan_bits_above}
use Rattle.roots.specs.Root.{mag, cbrt_of, hypot_of, nearest_root}
use Rattle.roots.specs.Parts.{mag_bits, root_bits}
use Rattle.roots.specs.Laws.{mag_is}
use Rattle.laws.specs.Nan.{nan_is}

abbrev pub Worth : Float → Bool → ℕ → Type 0
Worth v s a = HasValue v s a (2 ^ 149)

-- the magnitude of a pattern with no exponent, and of any other
pub tiny : (y : ℕ) → y / 2 ^ 23 ≡ 0 → y % 2 ^ 23 ≡ mag_bits y
tiny y e =
    let h : y < 2 ^ 23 = omega arith in
    let z : y % 2 ^ 23 ≡ y = omega arith in
    z ∙ sym (ap (λ (t : Bool). cond t y ((y % 2 ^ 23 + 2 ^ 23) * 2 ^ (y / 2 ^ 23 - 1))) (lt-ltb y (2 ^ 23) h))

pub full : (y : ℕ) → (y / 2 ^ 23 ≡ 0 → ⊥) → (y % 2 ^ 23 + 2 ^ 23) * 2 ^ (y / 2 ^ 23 - 1) ≡ mag_bits y
full y n = let h : 2 ^ 23 ≤ y = omega arith in sym (ap (λ (t : Bool). cond t y ((y % 2 ^ 23 + 2 ^ 23) * 2 ^ (y / 2 ^ 23 - 1))) (le-ltb y (2 ^ 23) h))

fields : (s : Bool) (y x : ℕ) → y < 0x7f80_0000 → x ≡ y / 2 ^ 23 → Worth (of_fields binary32 s x (y % 2 ^ 23)) s (mag_bits y)
unfolding of_fields
fields s y zero h e = subst (λ (a : ℕ). Worth (odd 24 s (y % 2 ^ 23) 0 149) s a) (mul-one (y % 2 ^ 23) ∙ tiny y (sym e)) (odd_sign 24 s (y % 2 ^ 23) 0 149)
fields s y (suc x) h e =
    subst (λ (t : Bool). Worth (cond t (cond (eqb (y % 2 ^ 23) 0) (inf s) nan) (odd 24 s (2 ^ 23 + y % 2 ^ 23) x 149)) s (mag_bits y)) (sym (ne_eqb (suc x) 255 (λ z. lt_irrefl 0 (omega arith))))
    (subst (λ (a : ℕ). Worth (odd 24 s (2 ^ 23 + y % 2 ^ 23) x 149) s a) (ap (λ (z : ℕ). z * 2 ^ x) (add_comm (2 ^ 23) (y % 2 ^ 23)) ∙ ap (λ (x : ℕ). (y % 2 ^ 23 + 2 ^ 23) * 2 ^ x) (omega arith) ∙ full y (λ z. lt_irrefl 0 (omega arith))) (odd_sign 24 s (2 ^ 23 + y % 2 ^ 23) x 149))

low_digits : (b : ℕ) → b % 2 ^ 31 % 2 ^ 23 ≡ b % 2 ^ 23
low_digits b = omega arith

pub decode : (b : ℕ) → b % 2 ^ 31 < 0x7f80_0000 → Worth (of_bits binary32 b) (leb (2 ^ 31) b) (mag_bits (b % 2 ^ 31))
unfolding of_bits
decode b h = subst (λ (t : ℕ). Worth (of_fields binary32 (leb (2 ^ 31) b) (b % 2 ^ 31 / 2 ^ 23) t) (leb (2 ^ 31) b) (mag_bits (b % 2 ^ 31))) (low_digits b) (fields (leb (2 ^ 31) b) (b % 2 ^ 31) (b % 2 ^ 31 / 2 ^ 23) h refl)

-- a pattern above zero has a magnitude above zero
either : (t : Bool) (a b : ℕ) → 0 < a → 0 < b → 0 < cond t a b
either true a b h k = h
either false a b h k = k

pub mag_pos : (y : ℕ) → 0 < y → 0 < mag_bits y
mag_pos y h = either (ltb y (2 ^ 23)) y ((y % 2 ^ 23 + 2 ^ 23) * 2 ^ (y / 2 ^ 23 - 1)) h (mul-pos (omega arith) (pow_pos (y / 2 ^ 23 - 1)))

pub no_zero : (e : lib.IntN.ℤ) (a : ℕ) → 0 < a → 0 * up e * 2 ^ 149 ≡ a * down e → ⊥
no_zero e a A h = lt_irrefl 0 (subst (λ (x : ℕ). 0 < x) (sym h ∙ ap (λ (x : ℕ). x * 2 ^ 149) (zero-mul (up e)) ∙ zero-mul (2 ^ 149)) (mul-pos A (down_pos e)))

pub cbrt_of_lem : (v : Float) (s : Bool) (a : ℕ) → 0 < a → Worth v s a → cbrt_of v ≡ nearest_root s 3 (a * 2 ^ 298)
unfolding cbrt_of
cbrt_of_lem nan s a A h = absurd h
cbrt_of_lem (inf t) s a A h = absurd h
cbrt_of_lem (fin t zero e) s a A h = absurd (no_zero e a A h.1)
cbrt_of_lem (fin t (suc m) e) s a A h = ap (λ (t : Bool). nearest_root t 3 (mag (suc m) e * 2 ^ 298)) h.0 ∙ ap (λ (x : ℕ). nearest_root s 3 (x * 2 ^ 298)) (mag_is (suc m) e a h.1)

-- ---- what x is, by its pattern: a magnitude, a zero or an infinity

sign_of : (b : ℕ) → b < 2 ^ 32 → b / 2 ^ 31 * 2 ^ 31 ≡ cond (leb (2 ^ 31) b) (2 ^ 31) 0
sign_of b h = go (leb (2 ^ 31) b) (leb→le (2 ^ 31) b) (nleb→lt (2 ^ 31) b)
  where
    go : (t : Bool) → (T t → 2 ^ 31 ≤ b) → (T (not t) → b < 2 ^ 31) → b / 2 ^ 31 * 2 ^ 31 ≡ cond t (2 ^ 31) 0
    go true p n = let k = p tt in omega arith
    go false p n = let k = n tt in omega arith

minus_inf : of_bits binary32 0xff80_0000 ≡ inf true
unfolding of_bits
minus_inf = refl

pub plus_inf : of_bits binary32 0x7f80_0000 ≡ inf false
unfolding of_bits
plus_inf = refl

inf_at : (b : ℕ) → b < 2 ^ 32 → b % 2 ^ 31 ≡ 0x7f80_0000 → of_bits binary32 b ≡ inf (leb (2 ^ 31) b)
inf_at b l h = go (leb (2 ^ 31) b) (leb→le (2 ^ 31) b) (nleb→lt (2 ^ 31) b)
  where
    go : (t : Bool) → (T t → 2 ^ 31 ≤ b) → (T (not t) → b < 2 ^ 31) → of_bits binary32 b ≡ inf t
    go true p n = let k = p tt in let e : b ≡ 0xff80_0000 = omega arith in ap (λ (b : ℕ). of_bits binary32 b) e ∙ minus_inf
    go false p n = let k = n tt in let e : b ≡ 0x7f80_0000 = omega arith in ap (λ (b : ℕ). of_bits binary32 b) e ∙ plus_inf

no_nan : (b : ℕ) → T (not (is_nan (of_bits binary32 b))) → b % 2 ^ 31 ≤ 0x7f80_0000
no_nan b N = nltb→le 0x7f80_0000 (b % 2 ^ 31) (subst (λ (t : Bool). T (not t)) (sym (nan_bits_is binary32 b) ∙ nan_bits_above binary32 b) N)

module _ (x : Float) (F : T (fits binary32 x)) where
  abbrev pub bits : ℕ
  bits = to_bits binary32 x

  back : of_bits binary32 bits ≡ x
  back = of_bits-to_bits binary32 x F

  pub sign_bits : bits / 2 ^ 31 * 2 ^ 31 ≡ cond (leb (2 ^ 31) bits) (2 ^ 31) 0
  sign_bits = sign_of bits (to_bits-lt binary32 x F)

  pub worth : bits % 2 ^ 31 < 0x7f80_0000 → Worth x (leb (2 ^ 31) bits) (mag_bits (bits % 2 ^ 31))
  worth h = subst (λ (v : Float). Worth v (leb (2 ^ 31) bits) (mag_bits (bits % 2 ^ 31))) back (decode bits h)

  pub infinite : T (not (is_nan x)) → 0x7f80_0000 ≤ bits % 2 ^ 31 → x ≡ inf (leb (2 ^ 31) bits)
  infinite N h =
      let k = no_nan bits (subst (λ (v : Float). T (not (is_nan v))) (sym back) N) in
      sym back ∙ inf_at bits (to_bits-lt binary32 x F) (omega arith)

  pub is_zero : bits % 2 ^ 31 ≡ 0 → Worth x (leb (2 ^ 31) bits) 0
  is_zero e = subst (λ (a : ℕ). Worth x (leb (2 ^ 31) bits) (mag_bits a)) e (worth (omega arith))

-- ---- a zero, an infinity and a NaN

zero_mag : (m : ℕ) (e : lib.IntN.ℤ) → suc m * up e * 2 ^ 149 ≡ 0 * down e → ⊥
zero_mag m e h = lt_irrefl 0 (subst (λ (x : ℕ). 0 < x) (h ∙ zero-mul (down e)) (mul-pos (mul-pos (zero-lt-suc m) (up_pos e)) (pow_pos 149)))

-- what is worth 0 is a zero
pub zero_is : (v : Float) (s : Bool) → Worth v s 0 → (f : Float → Float) (w : Float) → ((t : Bool) (e : lib.IntN.ℤ) → f (fin t zero e) ≡ w) → f v ≡ w
zero_is nan s h f w k = absurd h
zero_is (inf t) s h f w k = absurd h
zero_is (fin t zero e) s h f w k = k t e
zero_is (fin t (suc m) e) s h f w k = absurd (zero_mag m e h.1)

-- and is kept by a function that keeps zeros
pub zero_stays : (v : Float) (s : Bool) → Worth v s 0 → (f : Float → Float) → ((t : Bool) (e : lib.IntN.ℤ) → f (fin t zero e) ≡ fin t zero e) → v ≡ f v
zero_stays nan s h f k = absurd h
zero_stays (inf t) s h f k = absurd h
zero_stays (fin t zero e) s h f k = sym (k t e)
zero_stays (fin t (suc m) e) s h f k = absurd (zero_mag m e h.1)

pub is_nan_lem : (x : Float) → ne x x ≡ true → x ≡ nan
is_nan_lem x e = differs_from_itself x (subst T (sym e) tt)

pub is_number : (x : Float) → is_nan x ≡ false → T (not (is_nan x))
is_number x e = subst (λ (t : Bool). T (not t)) (sym e) tt

pub no_nan_pattern : (n : ℕ) → n % 2 ^ 31 ≤ 0x7f80_0000 → T (not (nan_bits binary32 n))
no_nan_pattern n h = subst (λ (t : Bool). T (not t)) (sym (nan_bits_above binary32 n ∙ le-ltb 0x7f80_0000 (n % 2 ^ 31) h)) tt

pub infinite_at : (x : Float) → T (fits binary32 x) → to_bits binary32 x % 2 ^ 31 ≡ 0x7f80_0000 → x ≡ inf (leb (2 ^ 31) (to_bits binary32 x))
infinite_at x F h = sym (of_bits-to_bits binary32 x F) ∙ inf_at (to_bits binary32 x) (to_bits-lt binary32 x F) h

pub nan_at : (x : Float) → T (fits binary32 x) → 0x7f80_0000 < to_bits binary32 x % 2 ^ 31 → x ≡ nan
nan_at x F h =
    let b = to_bits binary32 x in
    let e : is_nan x ≡ true = ap (λ (v : Float). is_nan v) (sym (of_bits-to_bits binary32 x F)) ∙ sym (nan_bits_is binary32 b) ∙ nan_bits_above binary32 b ∙ lt-ltb 0x7f80_0000 (b % 2 ^ 31) h in
    nan_is x (subst T (sym e) tt)

-- ---- `hypot_of`

pub hypot_of_lem : (v w : Float) (s t : Bool) (a b : ℕ) → Worth v s a → Worth w t b → hypot_of v w ≡ nearest_root false 2 (a * a + b * b)
unfolding hypot_of
hypot_of_lem nan w s t a b h k = absurd h
hypot_of_lem (inf u) w s t a b h k = absurd h
hypot_of_lem (fin u m e) nan s t a b h k = absurd k
hypot_of_lem (fin u m e) (inf z) s t a b h k = absurd k
hypot_of_lem (fin u m e) (fin z n d) s t a b h k = ap (λ (x : ℕ). nearest_root false 2 (x * x + mag n d * mag n d)) (mag_is m e a h.1) ∙ ap (λ (x : ℕ). nearest_root false 2 (a * a + x * x)) (mag_is n d b k.1)

-- by the patterns of two finite numbers
pub pair_of : (x y : Float) (r : ℕ) → T (fits binary32 x) → T (fits binary32 y) → to_bits binary32 x % 2 ^ 31 < 0x7f80_0000 → to_bits binary32 y % 2 ^ 31 < 0x7f80_0000
    → root_bits 2 (mag_bits (to_bits binary32 x % 2 ^ 31) * mag_bits (to_bits binary32 x % 2 ^ 31) + mag_bits (to_bits binary32 y % 2 ^ 31) * mag_bits (to_bits binary32 y % 2 ^ 31)) r
    → of_bits binary32 r ≡ hypot_of x y
pair_of x y r F G A B R = ap (λ (n : ℕ). of_bits binary32 n) (sym (zero-add r)) ∙ R.right false ∙ sym (hypot_of_lem x y _ _ _ _ (worth x F A) (worth y G B))

pub inf_pattern : (s : Bool) → to_bits binary32 (inf s) % 2 ^ 31 ≡ 0x7f80_0000
unfolding to_bits
inf_pattern true = refl
inf_pattern false = refl

pub no_infinity : (x : Float) → (to_bits binary32 x % 2 ^ 31 ≡ 0x7f80_0000 → ⊥) → (s : Bool) → x ≡ inf s → ⊥
no_infinity x h s e = h (ap (λ (v : Float). to_bits binary32 v % 2 ^ 31) e ∙ inf_pattern s)

-- no pattern of an f64 below the infinity's is a NaN's
pub no_nan_wide : (n : ℕ) → n < 0x7ff0_0000_0000_0000 → T (not (nan_bits binary64 n))
no_nan_wide n h = subst (λ (t : Bool). T (not t)) (sym (nan_bits_above binary64 n ∙ le-ltb 0x7ff0_0000_0000_0000 (n % 2 ^ 63) (omega arith))) tt
