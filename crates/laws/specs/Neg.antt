-- The other sign. Negated twice, a float is what it was; what is rounded, multiplied or divided with the other sign has the other sign. Every law holds in both formats. Assumes nothing.
use Rattle.std.specs.Prelude.{◌≡◌, Bool, true, false, not, cond, eqb, ltb, pos, Float}
use Rattle.std.proofs.Math.Path.{refl}
use Rattle.std.proofs.Common.{ap, ◌∙◌}
use Prim.Native.Nat.{ℕ, zero, suc, ◌+◌, ◌-◌, ◌*◌, ◌/◌, ◌%◌, ◌^◌, compare}
use Rattle.std.specs.Float.{nan, inf, fin, Format}
use Rattle.std.specs.Float.Ieee.{prec, emax, low, up, down, unlike, size, nearest, odd, units, round, neg, mul, div}

pub neg_neg : (x : Float) → neg (neg x) ≡ x
unfolding neg
neg_neg nan = refl
neg_neg (inf true) = refl
neg_neg (inf false) = refl
neg_neg (fin true m e) = refl
neg_neg (fin false m e) = refl

-- ---- what is rounded
neg_odd : (s : Bool) (d q k l : ℕ) → odd d (not s) q k l ≡ neg (odd d s q k l)
unfolding neg odd
neg_odd s d zero k l = refl
neg_odd s d (suc q) k l = refl

neg_units : (f : Format) (s : Bool) (q k : ℕ) → units f (not s) q k ≡ neg (units f s q k)
unfolding units
neg_units f s q k = go (ltb (q * 2 ^ k) (2 ^ (low f + suc (emax f))))
  where
    go : (b : Bool) → cond b (odd (suc (prec f)) (not s) q k (low f)) (inf (not s)) ≡ neg (cond b (odd (suc (prec f)) s q k (low f)) (inf s))
    go true = neg_odd s (suc (prec f)) q k (low f)
    go false = unfold neg in refl

pub round_neg : (f : Format) (s : Bool) (a c : ℕ) → round f (not s) a c ≡ neg (round f s a c)
unfolding round
round_neg f s a c =
    let n = a * 2 ^ low f in
    let k = size (n / c) - prec f in
    let v = c * 2 ^ k in
    neg_units f s (nearest (n / v) (compare (n % v * 2) v)) k

-- ---- products and quotients
unlike_not : (s t : Bool) → unlike (not s) t ≡ not (unlike s t)
unlike_not true true = refl
unlike_not true false = refl
unlike_not false true = refl
unlike_not false false = refl

round_unlike : (f : Format) (s t : Bool) (a c : ℕ) → round f (unlike (not s) t) a c ≡ neg (round f (unlike s t) a c)
round_unlike f s t a c = ap (λ (u : Bool). round f u a c) (unlike_not s t) ∙ round_neg f (unlike s t) a c

over : (p : Bool) (s t : Bool) → cond p nan (inf (unlike (not s) t)) ≡ neg (cond p nan (inf (unlike s t)))
unfolding neg
over true s t = refl
over false s t = ap inf (unlike_not s t)

quotient : (p q : Bool) (f : Format) (s t : Bool) (a c : ℕ)
    → cond p (cond q nan (inf (unlike (not s) t))) (round f (unlike (not s) t) a c) ≡ neg (cond p (cond q nan (inf (unlike s t))) (round f (unlike s t) a c))
quotient true q f s t a c = over q s t
quotient false q f s t a c = round_unlike f s t a c

pub div_neg : (f : Format) (x y : Float) → div f (neg x) y ≡ neg (div f x y)
unfolding div neg
div_neg f nan y = refl
div_neg f (inf s) nan = refl
div_neg f (inf s) (inf t) = refl
div_neg f (inf s) (fin t n d) = ap inf (unlike_not s t)
div_neg f (fin s m e) nan = refl
div_neg f (fin s m e) (inf t) = ap (λ (u : Bool). fin u 0 (pos 0)) (unlike_not s t)
div_neg f (fin s m e) (fin t n d) = quotient (eqb n 0) (eqb m 0) f s t (m * up e * down d) (n * up d * down e)

pub mul_neg : (f : Format) (x y : Float) → mul f (neg x) y ≡ neg (mul f x y)
unfolding mul neg
mul_neg f nan y = refl
mul_neg f (inf s) nan = refl
mul_neg f (inf s) (inf t) = ap inf (unlike_not s t)
mul_neg f (inf s) (fin t n d) = over (eqb n 0) s t
mul_neg f (fin s m e) nan = refl
mul_neg f (fin s m e) (inf t) = over (eqb m 0) s t
mul_neg f (fin s m e) (fin t n d) = round_unlike f s t (m * up e * (n * up d)) (down e * down d)
