-- A binary16's fields, put where binary32 has its own, and what they stand for there. Assumes nothing.
use Rattle.std.proofs.Common.{◌≡◌, ℕ, zero, suc, ◌+◌, ◌*◌, ◌/◌, ◌%◌, ◌^◌, ◌<◌, ◌≤◌, Bool, true, false, cond, eqb, leb, pos, sym, refl, ap, ◌∙◌, subst, lt_irrefl, zero-lt-suc, mul_assoc, mul-one, mul_right_comm, arith, pow_pos, ne_eqb, le-leb}
use lib.Dec.{eqb-suc-zero}
use lib.Ieee.{Float, nan, inf, fin, binary32, unlike, odd, round, of_fields, of_bits, mul}
use lib.Ieee.Exact.{HasValue, odd_sign}
use lib.Ieee.Scale.{round_same}
use borrow.Author.Tests.{lt-leb}
use Rattle.laws.specs.Dyadic.{mul_value}
use Rattle.numbers.specs.Words.{half_units, half_fields, half_of}

-- ---- the fields
record Fields (w n x : ℕ) : Type 0 where
  sign : leb 0x8000_0000 n ≡ eqb (w / 32768 % 2) 1
  exponent : n % 0x8000_0000 / 8388608 ≡ x
  digits : n % 8388608 ≡ w % 1024 * 8192

sign_of : (b n : ℕ) → b < 2 → b * 0x8000_0000 ≤ n → n < (b + 1) * 0x8000_0000 → leb 0x8000_0000 n ≡ eqb b 1
sign_of zero n h k l = lt-leb 0x8000_0000 n (omega arith)
sign_of (suc zero) n h k l = le-leb 0x8000_0000 n (omega arith)
sign_of (suc (suc b)) n h k l = absurd (lt_irrefl 0 (omega arith))

low_fields : (w : ℕ) → Fields w (w / 32768 % 2 * 0x8000_0000 + w % 32768 * 8192) (w / 1024 % 32)
low_fields w = record {
  sign = sign_of (w / 32768 % 2) (w / 32768 % 2 * 0x8000_0000 + w % 32768 * 8192) (omega arith) (omega arith) (omega arith);
  exponent = omega arith;
  digits = omega arith;
}

top_fields : (w : ℕ) → 31744 ≤ w % 32768 → Fields w (w / 32768 % 2 * 0x8000_0000 + w % 32768 * 8192 + 0x7000_0000) 255
top_fields w h = record {
  sign = sign_of (w / 32768 % 2) (w / 32768 % 2 * 0x8000_0000 + w % 32768 * 8192 + 0x7000_0000) (omega arith) (omega arith) (omega arith);
  exponent = omega arith;
  digits = omega arith;
}

fields_of : (w n x : ℕ) → Fields w n x → of_bits binary32 n ≡ of_fields binary32 (eqb (w / 32768 % 2) 1) x (w % 1024 * 8192)
unfolding of_bits
fields_of w n x F = cc (F.sign, F.exponent, F.digits)

-- ---- a finite one
abbrev big : Float
big = fin false 1 (pos 112)

scaled : (u p : ℕ) → u * 8192 * p * 2 ^ 112 * 2 ^ 24 ≡ u * p * 2 ^ 149
scaled u p =
    mul_assoc (u * 8192 * p) (2 ^ 112) (2 ^ 24) ∙ ap (λ (z : ℕ). z * 2 ^ 136) (mul_right_comm u 8192 p) ∙ mul_assoc (u * p) 8192 (2 ^ 136)

unlike_clear : (s : Bool) → unlike s false ≡ s
unlike_clear true = refl
unlike_clear false = refl

times_big : (s : Bool) (x : Float) (u p : ℕ) → HasValue x s (u * 8192 * p) (2 ^ 149) → mul binary32 x big ≡ round binary32 s (u * p) (2 ^ 24)
times_big s x u p v =
    mul_value binary32 x big s false (u * 8192 * p) (2 ^ 149) (2 ^ 112) 1 (pow_pos 149) (zero-lt-suc 0) v (refl, refl)
    ∙ ap (λ (t : Bool). round binary32 t (u * 8192 * p * 2 ^ 112) (2 ^ 149)) (unlike_clear s)
    ∙ round_same binary32 s (u * 8192 * p * 2 ^ 112) (2 ^ 149) (u * p) (2 ^ 24) (pow_pos 149) (pow_pos 24) (scaled u p)

lead : (t : ℕ) → 8388608 + t * 8192 ≡ (1024 + t) * 8192
lead t = omega arith

finite_fields : (s : Bool) (x t : ℕ) → x < 31 → mul binary32 (of_fields binary32 s x (t * 8192)) big ≡ half_fields s x t
unfolding of_fields half_fields half_units
finite_fields s zero t h = times_big s (odd 24 s (t * 8192) 0 149) t 1 (odd_sign 24 s (t * 8192) 0 149) ∙ ap (λ (z : ℕ). round binary32 s z (2 ^ 24)) (mul-one t)
finite_fields s (suc x) t h =
    ap (λ (b : Bool). mul binary32 (cond b (cond (eqb (t * 8192) 0) (inf s) nan) (odd 24 s (8388608 + t * 8192) x 149)) big) (ne_eqb (suc x) 255 (λ e. lt_irrefl 0 (omega arith)))
    ∙ times_big s (odd 24 s (8388608 + t * 8192) x 149) (1024 + t) (2 ^ x) (subst (λ (z : ℕ). HasValue (odd 24 s (8388608 + t * 8192) x 149) s (z * 2 ^ x) (2 ^ 149)) (lead t) (odd_sign 24 s (8388608 + t * 8192) x 149))
    ∙ sym (ap (λ (b : Bool). cond b (cond (eqb t 0) (inf s) nan) (round binary32 s ((1024 + t) * 2 ^ x) (2 ^ 24))) (ne_eqb (suc x) 31 (λ e. lt_irrefl 0 (omega arith))))

pub finite_half : (w : ℕ) → w % 32768 < 31744 → mul binary32 (of_bits binary32 (w / 32768 % 2 * 0x8000_0000 + w % 32768 * 8192)) big ≡ half_of w
unfolding half_of
finite_half w h =
    ap (λ (v : Float). mul binary32 v big) (fields_of w _ _ (low_fields w)) ∙ finite_fields (eqb (w / 32768 % 2) 1) (w / 1024 % 32) (w % 1024) (omega arith)

-- ---- an infinity or a NaN
same_zero : (t : ℕ) → eqb (t * 8192) 0 ≡ eqb t 0
same_zero zero = refl
same_zero (suc t) = ne_eqb (suc t * 8192) 0 (λ e. lt_irrefl 0 (omega arith)) ∙ sym (eqb-suc-zero t)

pub top_half : (w : ℕ) → 31744 ≤ w % 32768 → of_bits binary32 (w / 32768 % 2 * 0x8000_0000 + w % 32768 * 8192 + 0x7000_0000) ≡ half_of w
unfolding half_of half_fields of_fields
top_half w h =
    let s = eqb (w / 32768 % 2) 1 in
    let f : w / 1024 % 32 ≡ 31 = omega arith in
    fields_of w _ _ (top_fields w h)
    ∙ ap (λ (b : Bool). cond b (inf s) nan) (same_zero (w % 1024))
    ∙ sym (ap (λ (x : ℕ). cond (eqb x 31) (cond (eqb (w % 1024) 0) (inf s) nan) (round binary32 s (half_units x (w % 1024)) (2 ^ 24))) f)
