-- The floor and the ceiling of a float at once, of its size and its sign. Assumes nothing.
use Rattle.std.proofs.Common.{◌≡◌, ℕ, ◌+◌, ◌*◌, ◌<◌, ◌≤◌, Bool, true, false, cond, not, T, ltb, [], ◌∷◌, ℤ, pos, neg_ℤ, refl, ◌∙◌, zero-mul, arith, ltb→lt, w32, to_z, of_z}
use lib.Signed.{mag}
use lib.Ieee.{Float, nan, inf, fin, binary32, up, down, neg, lt, fits, to_signed, to_unsigned, in_unsigned}
use lib.Ieee.Fits.{neg-fits}
use Rattle.numbers.specs.Words.{sign_of, signed, abs_of}
use Rattle.numbers.specs.Whole.{whole_of, floor_of, ceil_of, span_of}
use Rattle.numbers.proofs.Bits.{zeroed}
use Rattle.numbers.proofs.Integers.{read_back}
use Rattle.numbers.proofs.Wholes.{limit, as_i32}

-- the whole numbers next to a, of which f is the one below
abbrev pub upper : Float → Float → ℕ
upper a f = cond (lt f a) (to_unsigned 32 f + 1) (to_unsigned 32 f)

pub record Both (s : Bool) (a f : Float) : Type 0 where
  pub whole : T (in_unsigned binary32 32 f)
  pub low : to_unsigned 32 f ≤ 8388608
  pub small : to_unsigned 32 f ≤ 2147483647
  pub next : upper a f ≤ 2147483647
  pub floor : cond s (neg_ℤ (pos (upper a f))) (pos (to_unsigned 32 f)) ≡ to_signed 31 (floor_of (signed s a))
  pub ceil : cond s (neg_ℤ (pos (to_unsigned 32 f))) (pos (upper a f)) ≡ to_signed 31 (ceil_of (signed s a))

no_nan : T (lt nan limit) → ⊥
unfolding lt
no_nan h = h

no_inf : T (lt (inf false) limit) → ⊥
unfolding lt
no_inf h = h

flip : (m : ℕ) (e : ℤ) → T (fits binary32 (fin false m e)) → T (fits binary32 (fin true m e))
unfolding neg
flip m e F = neg-fits binary32 (fin false m e) F

both_fin : (s : Bool) (m : ℕ) (e : ℤ) (f : Float) → T (fits binary32 (fin false m e)) → T (lt (fin false m e) limit) → f ≡ whole_of false (fin false m e) → Both s (fin false m e) f
unfolding sign_of signed abs_of neg floor_of ceil_of
both_fin true m e f F h q =
    let a = fin false m e in
    let x = fin true m e in
    let U = as_i32 true x a f (flip m e F) refl h q in
    let D = as_i32 false x a f (flip m e F) refl h q in
    record { whole = D.whole; low = D.low; small = D.small; next = U.small; floor = U.value; ceil = D.value }
both_fin false m e f F h q =
    let a = fin false m e in
    let U = as_i32 true a a f F refl h q in
    let D = as_i32 false a a f F refl h q in
    record { whole = D.whole; low = D.low; small = D.small; next = U.small; floor = D.value; ceil = U.value }

pub both : (s : Bool) (a f : Float) → T (fits binary32 a) → T (not (sign_of a)) → T (lt a limit) → f ≡ whole_of false a → Both s a f
unfolding sign_of
both s nan f F c h q = absurd (no_nan h)
both s (inf true) f F c h q = absurd c
both s (inf false) f F c h q = absurd (no_inf h)
both s (fin true m e) f F c h q = absurd c
both s (fin false m e) f F c h q = both_fin s m e f F h q

-- two i32 that callees returned
pub ended : (x : Float) {a b : ℤ} → mag a < 2147483648 → mag b < 2147483648 → a ≡ to_signed 31 (floor_of x) → b ≡ to_signed 31 (ceil_of x) → to_z w32 (of_z w32 a) ∷ to_z w32 (of_z w32 b) ∷ [] ≡ span_of x
ended x i j p q = rw (read_back i ∙ p, read_back j ∙ q)

-- a number above zero, and minus one below
pub negated : (x : Float) → x ≡ signed true (neg x)
unfolding signed neg
negated nan = refl
negated (inf true) = refl
negated (inf false) = refl
negated (fin true m e) = refl
negated (fin false m e) = refl

-- below zero and above -2 ^ 23: minus that is above zero and below 2 ^ 23
nothing : (a z : ℕ) → z ≡ 0 → a < z → ⊥
nothing a z p h = omega arith

not_above : (a b : ℕ) → T (ltb a (0 * b)) → ⊥
not_above a b h = nothing a (0 * b) (zero-mul b) (ltb→lt a (0 * b) h)

pub minus : (x : Float) → T (lt x zeroed) → T (lt (fin true 1 (pos 23)) x) → T (not (sign_of (neg x))) × T (lt (neg x) limit)
unfolding sign_of neg lt
minus nan h k = absurd h
minus (inf true) h k = absurd k
minus (inf false) h k = absurd h
minus (fin true m e) h k = (tt, k)
minus (fin false m e) h k = absurd (not_above (m * up e * 1) (down e) h)
