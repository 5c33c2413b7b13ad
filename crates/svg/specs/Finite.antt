-- A decimal below 10 ^ 18 has a finite f32 nearest to it (`word_finite`). Assumes nothing.
use Rattle.std.specs.Prelude.{◌≡◌, refl, Bool, true, cond, T, Float}
use Rattle.std.proofs.Common.{sym, ap, ◌∙◌, le_trans, le_of_eq, le_of_lt, lt_of_lt_of_le, mul-le-mul_right, mul-lt-mul_of_pos_right, mul_comm, one-mul, div-lt_iff_lt-mul, div-add-mod', arith, lt-ltb, lit<, pow_pos, pow_mono}
use Prim.Native.Nat.{ℕ, zero, suc, ◌+◌, ◌-◌, ◌*◌, ◌/◌, ◌%◌, ◌^◌, ◌≤◌, ◌<◌, min, compare, Ordering}
use Rattle.std.proofs.Math.Nat.{one-le-pow}
use Rattle.std.specs.Float.{inf, binary32}
use Rattle.std.specs.Float.Ieee.{size, nearest, odd, units, round, of_bits, fits}
use Rattle.std.specs.Float.Ieee.Scale.{finite}
use Rattle.std.specs.Float.Ieee.Fits.{round-fits}
use Rattle.std.specs.Float.Ieee.Bits.{of_bits-to_bits}
use Rattle.std.specs.Float.Ieee.Digits.{size-le}
use Rattle.svg.specs.Decimal.{decimal_of}
use Rattle.svg.specs.Language.{Decimal, dec}
use Rattle.svg.specs.Meaning.{word_of}

odd_finite : (d : ℕ) (s : Bool) (q k l : ℕ) → finite (odd d s q k l) ≡ true
unfolding odd
odd_finite d s zero k l = refl
odd_finite d s (suc q) k l = refl

units_finite : (s : Bool) (q k : ℕ) → q * 2 ^ k < 2 ^ 277 → finite (units binary32 s q k) ≡ true
unfolding units
units_finite s q k h = ap (λ (b : Bool). finite (cond b (odd 25 s q k 149) (inf s))) (lt-ltb (q * 2 ^ k) (2 ^ 277) h) ∙ odd_finite 25 s q k 149

near_most : (q : ℕ) (o : Ordering) → nearest q o ≤ suc q
near_most q Ordering.lt = omega arith
near_most q Ordering.eq = omega arith
near_most q Ordering.gt = omega arith

-- what is kept is at most the whole, and one unit more
kept_most : (N d u q : ℕ) → 0 < d → q ≤ suc (N / (d * u)) → q * u ≤ N + u
kept_most N d u q D h = at (N / (d * u)) (N % (d * u)) (div-add-mod' N (d * u)) h
  where
    at : (Q r : ℕ) → Q * (d * u) + r ≡ N → q ≤ suc Q → q * u ≤ N + u
    at Q r e h =
        let a : q * u ≤ suc Q * u = mul-le-mul_right u h in
        let b : 1 * (Q * u) ≤ d * (Q * u) = mul-le-mul_right (Q * u) D in
        omega arith

double : (N k P q : ℕ) → N < P → k ≤ P → q ≤ N + k → q < P + P
double N k P q a b c = omega arith

module _ (n d : ℕ) (D : 0 < d) (h : n < 2 ^ 60) where
  units_most : n * 2 ^ 149 < 2 ^ 209
  units_most = mul-lt-mul_of_pos_right h (pow_pos 149)

  whole_most : n * 2 ^ 149 / d < 2 ^ 209
  whole_most = (div-lt_iff_lt-mul D).1 (lt_of_lt_of_le units_most (le_trans (le_of_eq (sym (one-mul (2 ^ 209)))) (le_trans (mul-le-mul_right (2 ^ 209) D) (le_of_eq (mul_comm d (2 ^ 209))))))

  dropped_most : size (n * 2 ^ 149 / d) - 24 ≤ 209
  dropped_most = let a = size-le (n * 2 ^ 149 / d) 209 whole_most in omega arith

  small : (k q : ℕ) → k ≤ 209 → q ≤ suc (n * 2 ^ 149 / (d * 2 ^ k)) → q * 2 ^ k < 2 ^ 277
  small k q K l =
      lt_of_lt_of_le (double (n * 2 ^ 149) (2 ^ k) (2 ^ 209) (q * 2 ^ k) units_most (pow_mono K) (kept_most (n * 2 ^ 149) d (2 ^ k) q D l))
      (le_of_lt (lit< {m = 2 ^ 209 + 2 ^ 209} {n = 2 ^ 277} tt))

round_finite : (s : Bool) (n d : ℕ) → 0 < d → n < 2 ^ 60 → finite (round binary32 s n d) ≡ true
unfolding round
round_finite s n d D h =
    let k = size (n * 2 ^ 149 / d) - 24 in
    let u = d * 2 ^ k in
    let q = nearest (n * 2 ^ 149 / u) (compare (n * 2 ^ 149 % u * 2) u) in
    units_finite s q k (small n d D h k q (dropped_most n d D h) (near_most (n * 2 ^ 149 / u) (compare (n * 2 ^ 149 % u * 2) u)))

-- nine digits before the point and nine behind it are eighteen
abbrev pub Bounded : Decimal → Type 0
Bounded (dec s n k) = n < 10 ^ 18

decimal_finite : (s : Bool) (n k : ℕ) → n < 10 ^ 18 → finite (decimal_of s n k) ≡ true
unfolding decimal_of
decimal_finite s n k h = round_finite s n (10 ^ min k 9) (one-le-pow (min k 9) 10 (lit< tt)) (lt_of_lt_of_le h (le_of_lt (lit< {m = 10 ^ 18} {n = 2 ^ 60} tt)))

decimal_fits : (s : Bool) (n k : ℕ) → T (fits binary32 (decimal_of s n k))
unfolding decimal_of
decimal_fits s n k = round-fits binary32 s n (10 ^ min k 9)

pub word_finite : (x : Decimal) → Bounded x → finite (of_bits binary32 (word_of x)) ≡ true
word_finite (dec s n k) h = ap (λ (v : Float). finite v) (of_bits-to_bits binary32 (decimal_of s n k) (decimal_fits s n k)) ∙ decimal_finite s n k h
