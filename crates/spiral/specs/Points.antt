-- Points that are equal as numbers stay so under a transform, and what the identity, applied as any other transform, does to a point. Assumes nothing.
use Rattle.std.specs.Prelude.{◌≡◌, refl, ◌⊎◌, Bool, true, false, not, ◌||◌, cond, List, zero, suc, T, get_or, Float}
use Rattle.std.proofs.Common.{sym, ◌∙◌, inl, inr}
use Rattle.std.specs.Float.{nan, inf, fin, binary32}
use Rattle.std.specs.Float.Ieee.{fits, is_nan, eq, round}
use Rattle.std.specs.Float.Ieee.Fits.{and_l, and_r, and_i}
use Rattle.std.specs.Float.Ieee.Scale.{finite}
use Rattle.laws.specs.Same.{Same, is_zero, plus_zero, one, row_of, or_true}
use Rattle.laws.proofs.Same.{same_row, same_row_exact, same→eq}
use Rattle.laws.specs.Own.{eq→same}
use Rattle.laws.proofs.Own.{identity_x, identity_x_zero, identity_y, identity_y_zero, identity_nan_x, identity_nan_y}
use Rattle.spiral.specs.Util.{new_of, has_nan, eq_of, identity_of, apply_of}
use Rattle.spiral.specs.declared.util.Vec2.{Vec2}

-- the same coordinates, but that the signs of zeros may differ
abbrev pub SamePoint : Vec2 → Vec2 → Type 0
SamePoint p q = Same p.x q.x × Same p.y q.y

-- both coordinates are numbers of binary32
abbrev pub FitsPoint : Vec2 → Type 0
FitsPoint p = T (fits binary32 p.x) × T (fits binary32 p.y)

abbrev pub FinitePoint : Vec2 → Type 0
FinitePoint p = T (finite p.x) × T (finite p.y)

-- ---- the comparison of points
pub eq→same_point : (p q : Vec2) → FitsPoint p → FitsPoint q → T (eq_of p q) → SamePoint p q
unfolding eq_of
eq→same_point p q f g h = (
  eq→same binary32 p.x q.x f.0 g.0 (and_l (eq p.x q.x) (eq p.y q.y) h),
  eq→same binary32 p.y q.y f.1 g.1 (and_r (eq p.x q.x) (eq p.y q.y) h),
)

neither : (a b : Bool) → T (not (a || b)) → T (not a) × T (not b)
neither true b h = absurd h
neither false b h = (tt, h)

pub same_point→eq : (p q : Vec2) → T (not (has_nan p)) → SamePoint p q → T (eq_of p q)
unfolding eq_of has_nan
same_point→eq p q h s =
    let n = neither (is_nan p.x) (is_nan p.y) h in
    and_i (eq p.x q.x) (eq p.y q.y) (same→eq p.x q.x n.0 s.0) (same→eq p.y q.y n.1 s.1)

-- ---- any transform
pub apply_same : (z : List Float) (p q : Vec2) → SamePoint p q → SamePoint (apply_of z p) (apply_of z q)
unfolding apply_of
apply_same z p q s = (
  same_row binary32 (get_or z 0 nan) (get_or z 2 nan) (get_or z 4 nan) p.x q.x p.y q.y s.0 s.1,
  same_row binary32 (get_or z 1 nan) (get_or z 3 nan) (get_or z 5 nan) p.x q.x p.y q.y s.0 s.1,
)

pub apply_eq : (z : List Float) (p q : Vec2) → FitsPoint p → FitsPoint q → T (eq_of p q) → T (not (has_nan (apply_of z p))) → T (eq_of (apply_of z p) (apply_of z q))
apply_eq z p q f g h n = same_point→eq (apply_of z p) (apply_of z q) n (apply_same z p q (eq→same_point p q f g h))

-- ---- the identity
identity_rows : (p : Vec2) → apply_of identity_of p ≡ new_of (row_of binary32 one plus_zero plus_zero p.x p.y) (row_of binary32 plus_zero one plus_zero p.x p.y)
unfolding apply_of identity_of round
identity_rows p = refl

pub both : {a b c d : Float} → a ≡ c → b ≡ d → new_of a b ≡ new_of c d
both p q = cc

-- points that are equal as numbers get the same bits
pub identity_same : (p q : Vec2) → SamePoint p q → apply_of identity_of p ≡ apply_of identity_of q
identity_same p q s =
    identity_rows p
    ∙ both (same_row_exact binary32 one plus_zero p.x q.x p.y q.y s.0 s.1) (same_row_exact binary32 plus_zero one p.x q.x p.y q.y s.0 s.1)
    ∙ sym (identity_rows q)

-- +0 for a zero
abbrev pub unsigned_zero : Float → Float
unsigned_zero x = cond (is_zero x) plus_zero x

zero_or_own : (x r : Float) → (T (is_zero x) → r ≡ plus_zero) → (T (not (is_zero x)) → r ≡ x) → r ≡ unsigned_zero x
zero_or_own nan r z o = o tt
zero_or_own (inf s) r z o = o tt
zero_or_own (fin s zero e) r z o = z tt
zero_or_own (fin s (suc m) e) r z o = o tt

-- a finite point comes back, with +0 for -0
pub identity_finite : (p : Vec2) → FitsPoint p → FinitePoint p → apply_of identity_of p ≡ new_of (unsigned_zero p.x) (unsigned_zero p.y)
identity_finite p f h =
    let x = p.x in
    let y = p.y in
    identity_rows p
    ∙ both (zero_or_own x (row_of binary32 one plus_zero plus_zero x y) (identity_x_zero binary32 x y f.0 h.1) (identity_x binary32 x y f.0 h.1))
    (zero_or_own y (row_of binary32 plus_zero one plus_zero x y) (identity_y_zero binary32 x y f.1 h.0) (identity_y binary32 x y f.1 h.0))

-- an infinity or a NaN leaves a NaN
pub identity_not_finite : (p : Vec2) → T (not (finite p.x)) ⊎ T (not (finite p.y)) → T (has_nan (apply_of identity_of p))
unfolding has_nan is_nan
identity_not_finite p (inl h) = rw (identity_rows p, identity_nan_y binary32 p.x p.y h) (or_true (is_nan (row_of binary32 one plus_zero plus_zero p.x p.y)))
identity_not_finite p (inr h) = rw (identity_rows p, identity_nan_x binary32 p.x p.y h) tt
