-- Where the offset is a zero, zeros are added to the point, and it stays as it is. Assumes nothing.
use Rattle.std.specs.Prelude.{◌≡◌, Bool, true, false, not, ◌&&◌, ◌||◌, ℕ, zero, suc, ◌*◌, ◌<◌, T, eqb, Float}
use Rattle.std.proofs.Common.{sym, ◌∙◌, mul-pos, zero-lt-suc, arith, eqb→eq}
use Rattle.std.specs.Bool.{beq}
use Rattle.std.specs.Float.{nan, inf, fin, binary32}
use Rattle.std.specs.Float.Ieee.{up, down, fits, round, of_bits, neg, add, sub, eq, ne, le}
use Rattle.std.specs.Float.Ieee.Fits.{up_pos, sub-fits, and_l, and_r}
use Rattle.std.specs.Float.Ieee.Scale.{finite}
use Rattle.laws.specs.Binary32.{◌⊕◌, ◌⊖◌, ◌⊗◌, whole}
use Rattle.laws.specs.Same.{is_zero, plus_zero, null}
use Rattle.laws.proofs.Same.{mul_zero_fin, not_zero}
use Rattle.laws.proofs.Own.{add_zero_own}
use Rattle.maths.specs.Trig.{sin_of, cos_of, Within, one, minus_one, sin_range, cos_range}
use Rattle.spiral.specs.Util.{new_of, add_of}
use Rattle.spiral.specs.Points.{FitsPoint, both}
use Rattle.spiral.specs.Euler.{eval_th, eval_of, eval_with_offset}
use Rattle.spiral.specs.declared.util.Vec2.{Vec2}
use Rattle.spiral.specs.declared.euler.EulerParams.{EulerParams}

-- the offset is a zero, the angle is finite, and no coordinate is a zero, whose sign might change
unfoldable pub unmoved : Vec2 → Float → Float → Bool
unmoved p th offset = eq offset (whole 0) && eq (th ⊖ th) (whole 0) && ne p.x (whole 0) && ne p.y (whole 0)

-- ---- what the tests say
no_size : (a : ℕ) → 0 < a → a ≡ 0 → ⊥
no_size a h e = omega arith

zero_of_eq : (x : Float) → T (eq x plus_zero) → T (is_zero x)
unfolding eq
zero_of_eq nan h = absurd h
zero_of_eq (inf s) h = absurd h
zero_of_eq (fin s zero e) h = tt
zero_of_eq (fin s (suc m) e) h =
    let a = suc m * up e * 1 in
    let b = 0 * 1 * down e in
    absurd (no_size a (mul-pos (mul-pos (zero-lt-suc m) (up_pos e)) (zero-lt-suc 0)) (eqb→eq a b (and_l (eqb a b) (beq s false || eqb a 0) h) ∙ null 1 (down e)))

finite_of : (x : Float) → T (eq (x ⊖ x) plus_zero) → T (finite x)
unfolding sub add neg eq
finite_of nan h = h
finite_of (inf true) h = h
finite_of (inf false) h = h
finite_of (fin s m e) h = tt

within_finite : (v : Float) → Within minus_one one v → T (finite v)
unfolding le of_bits
within_finite nan w = w.low
within_finite (inf true) w = w.low
within_finite (inf false) w = w.high
within_finite (fin s m e) w = tt

-- ---- the point: a zero times the sine or the cosine of a finite angle is a zero
added : (v offset w : Float) → T (fits binary32 v) → T (not (is_zero v)) → T (is_zero offset) → T (finite w) → v ⊕ offset ⊗ w ≡ v
added v offset w f n z h = add_zero_own binary32 v (offset ⊗ w) (mul_zero_fin binary32 offset w z h) n f

pub stays_there : (p : Vec2) (th offset : Float) → FitsPoint p → T (unmoved p th offset) → add_of p (new_of (offset ⊗ sin_of th) (offset ⊗ cos_of th)) ≡ p
unfolding add_of unmoved round
stays_there p th offset f h =
    let X = ne p.x plus_zero in
    let Y = ne p.y plus_zero in
    let O = eq offset plus_zero in
    let H = eq (th ⊖ th) plus_zero in
    let g = and_l (O && H && X) Y h in
    let k = and_l (O && H) X g in
    let z = zero_of_eq offset (and_l O H k) in
    let t = finite_of th (and_r O H k) in
    both (added p.x offset (sin_of th) f.0 (not_zero p.x (and_r (O && H) X g)) z (within_finite (sin_of th) (sin_range th t)))
    (added p.y offset (cos_of th) f.1 (not_zero p.y (and_r (O && H && X) Y h)) z (within_finite (cos_of th) (cos_range th t)))

pub point_fits : (e : EulerParams) (t : Float) → FitsPoint (eval_of e t)
unfolding eval_of
point_fits e t = (sub-fits binary32 _ _, sub-fits binary32 _ _)

pub no_offset : (e : EulerParams) (t offset : Float) → unmoved (eval_of e t) (eval_th e t) offset ≡ true → eval_of e t ≡ eval_with_offset e t offset
unfolding eval_with_offset
no_offset e t offset h = sym (stays_there (eval_of e t) (eval_th e t) offset (point_fits e t) (rw h tt))
