-- The count by words is the count by numbers: two f32 have the same word, -0 taken for +0, exactly where they are equal. Assumes nothing.
use Rattle.std.specs.Prelude.{ℕ, zero, suc, ◌*◌, ◌<◌, ◌≡◌, refl, Bool, true, false, not, ◌&&◌, ◌||◌, cond, T, eqb, Float}
use Rattle.std.proofs.Common.{sym, ap, ◌∙◌, subst, inl, inr, arith, zero-mul, mul-pos, zero-lt-suc, ne_eqb, eqb→eq}
use Rattle.std.specs.Bool.{beq}
use Rattle.std.specs.Float.{nan, inf, fin, binary32}
use Rattle.std.specs.Float.Ieee.{up, down, of_bits, to_bits, fits, is_nan, eq}
use Rattle.std.specs.Float.Ieee.Bits.{of_bits-to_bits}
use Rattle.std.specs.Float.Ieee.Fits.{down_pos, eq→eqb}
use Rattle.laws.specs.Same.{Same, is_zero, null}
use Rattle.laws.proofs.Same.{same→eq}
use Rattle.laws.specs.Own.{eq→same}
use Rattle.spiral.specs.Util.{has_nan, eq_of}
use Rattle.spiral.specs.Points.{SamePoint, FitsPoint}
use Rattle.spiral.specs.declared.util.Vec2.{Vec2}
use Rattle.records.specs.Record.{key, once}
use Rattle.strokes.specs.Number.{is_at}
use Rattle.strokes.specs.Leads.{same_word_lem}

from_word : (x : Float) (w : ℕ) → T (fits binary32 x) → to_bits binary32 x ≡ w → x ≡ of_bits binary32 w
from_word x w f e = sym (of_bits-to_bits binary32 x f) ∙ ap (of_bits binary32) e

zero_of : (x : Float) → T (fits binary32 x) → to_bits binary32 x ≡ 0 → T (is_zero x)
unfolding of_bits
zero_of x f e = subst (λ (v : Float). T (is_zero v)) (sym (from_word x 0 f e)) tt

minus_zero_of : (x : Float) → T (fits binary32 x) → to_bits binary32 x ≡ 0x80000000 → T (is_zero x)
unfolding of_bits
minus_zero_of x f e = subst (λ (v : Float). T (is_zero v)) (sym (from_word x 0x80000000 f e)) tt

word→same : (x y : Float) → T (fits binary32 x) → T (fits binary32 y) → key (to_bits binary32 x) ≡ key (to_bits binary32 y) → Same x y
unfolding key
word→same x y f g = go (eqb (to_bits binary32 x) 0x80000000) (eqb (to_bits binary32 y) 0x80000000) refl refl
  where
    equal : to_bits binary32 x ≡ to_bits binary32 y → Same x y
    equal e = inl (from_word x _ f e ∙ of_bits-to_bits binary32 y g)

    minus : (v : Float) → T (fits binary32 v) → eqb (to_bits binary32 v) 0x80000000 ≡ true → to_bits binary32 v ≡ 0x80000000
    minus v h e = eqb→eq (to_bits binary32 v) 0x80000000 (subst T (sym e) tt)

    go : (s t : Bool) → eqb (to_bits binary32 x) 0x80000000 ≡ s → eqb (to_bits binary32 y) 0x80000000 ≡ t → cond s 0 (to_bits binary32 x) ≡ cond t 0 (to_bits binary32 y) → Same x y
    go true true d e h = equal (minus x f d ∙ sym (minus y g e))
    go true false d e h = inr (minus_zero_of x f (minus x f d), zero_of y g (sym h))
    go false true d e h = inr (zero_of x f h, minus_zero_of y g (minus y g e))
    go false false d e h = equal h

not_nan : (x y : Float) → T (not (is_nan y)) → Same x y → T (not (is_nan x))
unfolding is_nan
not_nan x y h (inl p) = subst (λ (v : Float). T (not (is_nan v))) (sym p) h
not_nan nan y h (inr z) = absurd z.0
not_nan (inf s) y h (inr z) = tt
not_nan (fin s m e) y h (inr z) = tt

both_ways : (s t : Bool) → (T s → T t) → (T t → T s) → s ≡ t
both_ways true true f g = refl
both_ways true false f g = absurd (f tt)
both_ways false true f g = absurd (g tt)
both_ways false false f g = refl

pub word_as_number : (x y : Float) → T (fits binary32 x) → T (fits binary32 y) → T (not (is_nan y)) → eqb (key (to_bits binary32 x)) (key (to_bits binary32 y)) ≡ eq x y
word_as_number x y f g n =
    both_ways (eqb (key (to_bits binary32 x)) (key (to_bits binary32 y))) (eq x y)
    (λ t. let s = word→same x y f g (eqb→eq (key (to_bits binary32 x)) (key (to_bits binary32 y)) t) in same→eq x y (not_nan x y n s) s)
    (λ t. eq→eqb (same_word_lem x y (eq→same binary32 x y f g t)))

neither : (a b : Bool) → T (not (a || b)) → T (not a) × T (not b)
neither true b h = absurd h
neither false b h = (tt, h)

-- a point p counts at the words of q exactly where the two are equal as numbers
pub at_as_number : (p q : Vec2) → FitsPoint p → FitsPoint q → T (not (has_nan q)) → is_at (key (to_bits binary32 q.x)) (key (to_bits binary32 q.y)) p ≡ once (eq_of p q)
unfolding eq_of has_nan
at_as_number p q f g n =
    let k = neither (is_nan q.x) (is_nan q.y) n in
    let a = word_as_number p.x q.x f.0 g.0 k.0 in
    let b = word_as_number p.y q.y f.1 g.1 k.1 in
    rw (a, b) refl

-- ---- equality sees no sign of a zero
zero_left : (s : Bool) (a b u : ℕ) (t : Bool) → a ≡ 0 → 0 < u → (eqb a (b * u) && (beq s t || eqb a 0)) ≡ eqb 0 b
zero_left s a zero u t h g = rw (h, zero-mul u) (go (beq s t))
  where
    go : (d : Bool) → (true && (d || true)) ≡ true
    go true = refl
    go false = refl
zero_left s a (suc b) u t h g =
    let p : 0 < suc b * u = mul-pos (zero-lt-suc b) g in
    rw (h, ne_eqb 0 (suc b * u) (λ (e : 0 ≡ suc b * u). omega arith)) (sym (ne_eqb 0 (suc b) (λ (e : 0 ≡ suc b). omega arith)))

-- whether a zero equals y, whatever its sign and its exponent
abbrev zero_equals : Float → Bool
zero_equals nan = false
zero_equals (inf s) = false
zero_equals (fin s m e) = eqb 0 (m * up e)

zero_equals_lem : (x y : Float) → T (is_zero x) → eq x y ≡ zero_equals y
unfolding eq
zero_equals_lem nan y z = absurd z
zero_equals_lem (inf s) y z = absurd z
zero_equals_lem (fin s (suc m) e) y z = absurd z
zero_equals_lem (fin s zero e) nan z = refl
zero_equals_lem (fin s zero e) (inf t) z = refl
zero_equals_lem (fin s zero e) (fin t n d) z = zero_left s (0 * up e * down d) (n * up d) (down e) t (null (up e) (down d)) (down_pos e)

equal_left : (x x' y : Float) → Same x x' → eq x y ≡ eq x' y
equal_left x x' y (inl p) = ap (λ (v : Float). eq v y) p
equal_left x x' y (inr z) = zero_equals_lem x y z.0 ∙ sym (zero_equals_lem x' y z.1)

pub equal_same : (q p p' : Vec2) → SamePoint p p' → once (eq_of p q) ≡ once (eq_of p' q)
unfolding eq_of
equal_same q p p' s = rw (equal_left p.x p'.x q.x s.0, equal_left p.y p'.y q.y s.1) refl
