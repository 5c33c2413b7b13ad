-- A sign turned round, the order, and ranges. Assumes nothing.
use Rattle.std.specs.Prelude.{◌≡◌, Bool, not, ◌&&◌, ◌||◌, cond, ℕ, suc, ◌+◌, ◌*◌, ◌<◌, ℤ, pos, ltb, eqb, Float}
use Rattle.std.proofs.Math.Path.{refl}
use Rattle.std.proofs.Common.{sym, ap, subst, add_comm, zero-lt-suc, mul-pos, arith, lt→ltb}
use Rattle.std.proofs.Math.Bool.{true, false}
use Rattle.std.specs.Bool.{beq}
use Rattle.std.proofs.Math.Dec.{T}
use Rattle.std.specs.Float.{nan, inf, fin, binary32}
use Rattle.std.specs.Float.Ieee.{up, down, below, fits, is_nan, neg, lt, le, eq}
use Rattle.std.specs.Float.Ieee.Fits.{up_pos, down_pos, cond-fits, neg-fits}
use Rattle.laws.specs.Neg.{neg_neg}
use Rattle.numbers.specs.Words.{sign_of, signed, abs_of}
use Rattle.numbers.specs.Order.{Ordered, less, more, alike, ordered, le_number_left, le_number_right}
use Rattle.trig.specs.Trig.{Within, bounded_of}

-- ---- the sign
pub sign_neg : (x : Float) → T (not (is_nan x)) → sign_of (neg x) ≡ not (sign_of x)
unfolding neg sign_of is_nan
sign_neg nan h = absurd h
sign_neg (inf s) h = refl
sign_neg (fin s m e) h = refl

pub abs_neg : (x : Float) → abs_of (neg x) ≡ abs_of x
unfolding neg sign_of signed abs_of
abs_neg nan = refl
abs_neg (inf true) = refl
abs_neg (inf false) = refl
abs_neg (fin true m e) = refl
abs_neg (fin false m e) = refl

pub nan_neg : (x : Float) → is_nan (neg x) ≡ is_nan x
unfolding neg is_nan
nan_neg nan = refl
nan_neg (inf s) = refl
nan_neg (fin s m e) = refl

pub signed_not : (s : Bool) (v : Float) → signed (not s) v ≡ neg (signed s v)
unfolding signed
signed_not true v = sym (neg_neg v)
signed_not false v = refl

-- ---- the order
pub lt→le : (x y : Float) → T (lt x y) → T (le x y)
unfolding le
lt→le x y h = go (lt x y) h
  where
    go : (b : Bool) → T b → T (b || eq x y)
    go true t = tt
    go false t = absurd t

not_not : (s : Bool) → not (not s) ≡ s
not_not true = refl
not_not false = refl

below_not : (s : Bool) (a : ℕ) (t : Bool) (b : ℕ) → below (not s) a (not t) b ≡ below t b s a
below_not true a true b = refl
below_not true a false b = refl
below_not false a true b = ap (λ (n : ℕ). ltb 0 n) (add_comm a b)
below_not false a false b = refl

and_not : (s t : Bool) → (not s && not (not t)) ≡ (t && not s)
and_not true true = refl
and_not true false = refl
and_not false true = refl
and_not false false = refl

pub neg_lt : (x y : Float) → lt (neg x) (neg y) ≡ lt y x
unfolding neg lt
neg_lt nan nan = refl
neg_lt nan (inf t) = refl
neg_lt nan (fin t n d) = refl
neg_lt (inf s) nan = refl
neg_lt (inf s) (inf t) = and_not s t
neg_lt (inf s) (fin t n d) = refl
neg_lt (fin s m e) nan = refl
neg_lt (fin s m e) (inf t) = not_not t
neg_lt (fin s m e) (fin t n d) = below_not s (m * up e * down d) t (n * up d * down e)

beq_not : (s t : Bool) → beq (not s) (not t) ≡ beq s t
beq_not true true = refl
beq_not true false = refl
beq_not false true = refl
beq_not false false = refl

neg_eq : (x y : Float) → eq (neg x) (neg y) ≡ eq x y
unfolding neg eq
neg_eq nan y = refl
neg_eq (inf s) nan = refl
neg_eq (inf s) (inf t) = beq_not s t
neg_eq (inf s) (fin t n d) = refl
neg_eq (fin s m e) nan = refl
neg_eq (fin s m e) (inf t) = refl
neg_eq (fin s m e) (fin t n d) = ap (λ (b : Bool). eqb (m * up e * down d) (n * up d * down e) && (b || eqb (m * up e * down d) 0)) (beq_not s t)

eq_swap : (x y : Float) → T (not (is_nan x)) → T (not (is_nan y)) → eq x y ≡ eq y x
eq_swap x y h k = go (lt x y) (lt y x) (eq x y) (eq y x) (ordered x y h k)
  where
    go : (a b c d : Bool) → Ordered a b c d → c ≡ d
    go true false false false less = refl
    go false true false false more = refl
    go false false true true alike = refl
    go false false false d never = elim never [ ]
    go false false true false never = elim never [ ]
    go false true false true never = elim never [ ]
    go false true true d never = elim never [ ]
    go true false false true never = elim never [ ]
    go true false true d never = elim never [ ]
    go true true c d never = elim never [ ]

pub neg_le : (x y : Float) → T (le x y) → T (le (neg y) (neg x))
neg_le x y h = let e = eq_swap x y (le_number_left x y h) (le_number_right x y h) in unfold le in rw (neg_lt y x, neg_eq y x, ← e) h

pub lt_not_le : (x y : Float) → T (lt x y) → le y x ≡ false
lt_not_le x y h = let l = lt→le x y h in unfold le in go (lt x y) (lt y x) (eq x y) (eq y x) (ordered x y (le_number_left x y l) (le_number_right x y l)) h
  where
    go : (a b c d : Bool) → Ordered a b c d → T a → (b || d) ≡ false
    go true false false false less h = refl
    go false true false false more h = absurd h
    go false false true true alike h = absurd h
    go false false false d never h = elim never [ ]
    go false false true false never h = elim never [ ]
    go false true false true never h = elim never [ ]
    go false true true d never h = elim never [ ]
    go true false false true never h = elim never [ ]
    go true false true d never h = elim never [ ]
    go true true c d never h = elim never [ ]

-- what is above a number that is not negative has no sign
pub sign_above : (m : ℕ) (e : ℤ) (x : Float) → T (lt (fin false m e) x) → sign_of x ≡ false
unfolding lt sign_of
sign_above m e nan h = absurd h
sign_above m e (inf true) h = absurd h
sign_above m e (inf false) h = refl
sign_above m e (fin true n d) h = absurd h
sign_above m e (fin false n d) h = refl

-- ---- ranges
pub within_number : {lo hi v : Float} → Within lo hi v → T (not (is_nan v))
within_number {lo} {hi} {v} w = le_number_left v hi w.high

-- what is bounded lies between the bounds, or above a bottom that lies below the lower one
pub bounded_within : (bottom lo hi : Float) → ((v : Float) → T (lt lo v) → T (lt bottom v)) → T (le bottom lo) → T (le bottom hi) → T (le lo hi) → T (le hi hi) → (v : Float) → Within bottom hi (bounded_of lo hi v)
unfolding bounded_of
bounded_within bottom lo hi above bl bh lh hh v = go (lt lo v) (lt v hi) (λ h. lt→le bottom v (above v h)) (lt→le v hi)
  where
    go : (a b : Bool) → (T a → T (le bottom v)) → (T b → T (le v hi)) → Within bottom hi (cond a (cond b v hi) lo)
    go true true p q = record { low = p tt; high = q tt }
    go true false p q = record { low = bh; high = hh }
    go false b p q = record { low = bl; high = lh }

-- a range from -top to top holds either sign
pub signed_within : (top : Float) (s : Bool) (v : Float) → Within (neg top) top v → Within (neg top) top (signed s v)
unfolding signed
signed_within top true v w = record { low = neg_le v top w.high; high = subst (λ (z : Float). T (le (neg v) z)) (neg_neg top) (neg_le (neg top) v w.low) }
signed_within top false v w = w

-- what is below zero is below whatever is above zero
sum_pos : (a b : ℕ) → 0 < a → 0 < a + b
sum_pos a b h = omega arith

pub under_zero_lem : (m : ℕ) (e : ℤ) (v : Float) → T (lt (fin false 0 (pos 0)) v) → T (lt (fin true (suc m) e) v)
unfolding lt
under_zero_lem m e nan h = absurd h
under_zero_lem m e (inf true) h = absurd h
under_zero_lem m e (inf false) h = tt
under_zero_lem m e (fin true n d) h = absurd h
under_zero_lem m e (fin false n d) h = lt→ltb 0 (suc m * up e * down d + n * up d * down e) (sum_pos (suc m * up e * down d) (n * up d * down e) (mul-pos (mul-pos (zero-lt-suc m) (up_pos e)) (down_pos d)))

-- ---- fits
pub signed_fits : (s : Bool) (v : Float) → T (fits binary32 v) → T (fits binary32 (signed s v))
unfolding signed
signed_fits s v h = cond-fits binary32 s (neg v) v (neg-fits binary32 v h) h

pub bounded_fits : (lo hi v : Float) → T (fits binary32 lo) → T (fits binary32 hi) → T (fits binary32 v) → T (fits binary32 (bounded_of lo hi v))
unfolding bounded_of
bounded_fits lo hi v a b h = cond-fits binary32 (lt lo v) (cond (lt v hi) v hi) lo (cond-fits binary32 (lt v hi) v hi h b) a
