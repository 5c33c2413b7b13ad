-- A filled segment with an inner control point that is not finite in device space, an infinity or a NaN, is refused by 8 before any line of it, whatever the room: its first range has no count; unless its four points are one, which draw nothing.
-- So is one whose inner point is not finite as it is read, under every transform, and a quad with its one control point. Assumes nothing.
use Rattle.std.specs.Prelude.{ℕ, zero, suc, ◌+◌, ◌*◌, ◌^◌, ◌≤◌, ◌<◌, ◌≡◌, refl, ◌⊎◌, Bool, true, not, cond, T, get_or, Float, Ok}
use Rattle.std.proofs.Common.{sym, ◌∙◌, subst, pow-suc, zero-lt-suc, arith}
use Rattle.std.proofs.Math.Path.{ap}
use Rattle.std.proofs.Math.Logic.{inl, inr}
use Rattle.std.proofs.Math.Bool.{false}
use mathlib.Core.List.{List, ◌∷◌, ◌++◌, flatten, append-nil}
use Rattle.std.specs.Float.{nan}
use Rattle.std.specs.Float.Ieee.{binary32, is_nan, eq, lt, neg}
use Rattle.std.specs.Float.Ieee.Order.{round_mono}
use Rattle.laws.specs.Binary32.{◌⊕◌, ◌⊖◌, ◌⊗◌, dec, whole}
use Rattle.laws.specs.Nan.{nan_add, add_nan, nan_sub, nan_mul, mul_nan, div_nan, nan_lt}
use Rattle.laws.specs.NotFinite.{Stray, stray_add, add_stray, stray_sub, stray_mul, mul_stray, side, beyond_side, beyond_add, add_beyond, beyond_sub, sub_beyond, apart_add, above_all, beyond_square, unsigned, unsigned_round, unsigned_mul, unsigned_sub, beyond_mul}
use Rattle.maths.specs.Numbers.{abs_of, abs_nan, ceil_nan, clamp_nan}
use Rattle.maths.specs.Trig.{atan2_nan_x}
use Rattle.refusals.specs.declared.Refusal.TheVariants.{NoCount}
use Rattle.spiral.specs.Util.{add_of, sub_of, mul_of, mix_of, dot_of, length_squared_of, angle_of, apply_of}
use Rattle.spiral.specs.Euler.{tangent_thresh, long_chord, from_points_derivs, from_angles}
use Rattle.spiral.specs.declared.util.Vec2.{Vec2}
use Rattle.spiral.specs.declared.euler.CubicParams.{CubicParams}
use Rattle.drawing.specs.Cubic.{point, cubic_point, cubic_deriv, cubic_at}
use Rattle.drawing.specs.Sheet.{Event, no_count, Sheet, sheet, draw_on, draw, draw_all, is_stopped, halt}
use Rattle.drawing.specs.SheetLaws.{absorbs}
use Rattle.drawing.specs.declared.line.Pen.{Pen}
use Rattle.curve.specs.Fit.{is_short, tip_at, params_of, low_dist_of, normal_of, robust_of, n_frac_of, fit_of}
use Rattle.curve.specs.Curve.{range_of, Front, Trail, onward, part, tip_of, accepted, is_point, side_events, device_side, euler_events}
use Rattle.curve.specs.Walks.{walks, flatten_append}
use Rattle.curve.specs.Infinite.{Refused, count_is_none, NotFinite, infinite_refused}
use Rattle.curve.specs.declared.fit.Fit.{Fit}
use Rattle.curve.specs.declared.Side.{Side}

-- ---- one coordinate of a cubic, by those of its control points and the weights

-- what leads to an inner point that is not finite, and what leads on from it, go apart
deriv_nan : (a b c d u v w : Float) → T (unsigned u) → T (unsigned v) → T (unsigned w) → Stray b ⊎ Stray c → (b ⊖ a) ⊗ u ⊕ (c ⊖ b) ⊗ v ⊕ (d ⊖ c) ⊗ w ≡ nan
deriv_nan a b c d u v w p q r (inl h) =
    let s = side b in
    let to = beyond_mul binary32 s (b ⊖ a) u (beyond_sub binary32 s b a (beyond_side b h)) p in
    let on = beyond_mul binary32 (not s) (c ⊖ b) v (sub_beyond binary32 s c b (beyond_side b h)) q in
    ap (λ (x : Float). x ⊕ (d ⊖ c) ⊗ w) (apart_add binary32 s ((b ⊖ a) ⊗ u) ((c ⊖ b) ⊗ v) to on) ∙ nan_add binary32 ((d ⊖ c) ⊗ w)
deriv_nan a b c d u v w p q r (inr h) =
    let s = side c in
    let to = beyond_mul binary32 s (c ⊖ b) v (beyond_sub binary32 s c b (beyond_side c h)) q in
    let on = beyond_mul binary32 (not s) (d ⊖ c) w (sub_beyond binary32 s d c (beyond_side c h)) r in
    apart_add binary32 s ((b ⊖ a) ⊗ u ⊕ (c ⊖ b) ⊗ v) ((d ⊖ c) ⊗ w) (add_beyond binary32 s ((b ⊖ a) ⊗ u) ((c ⊖ b) ⊗ v) to) on

inner_stray : (b c u v : Float) → Stray b ⊎ Stray c → Stray (b ⊗ u ⊕ c ⊗ v)
inner_stray b c u v (inl h) = stray_add binary32 (b ⊗ u) (c ⊗ v) (stray_mul binary32 b u h)
inner_stray b c u v (inr h) = add_stray binary32 (b ⊗ u) (c ⊗ v) (stray_mul binary32 c v h)

point_stray : (a b c d k u v w t : Float) → Stray b ⊎ Stray c → Stray (a ⊗ k ⊕ (b ⊗ u ⊕ c ⊗ v ⊕ d ⊗ w) ⊗ t)
point_stray a b c d k u v w t h =
    add_stray binary32 (a ⊗ k) ((b ⊗ u ⊕ c ⊗ v ⊕ d ⊗ w) ⊗ t) (stray_mul binary32 (b ⊗ u ⊕ c ⊗ v ⊕ d ⊗ w) t (stray_add binary32 (b ⊗ u ⊕ c ⊗ v) (d ⊗ w) (inner_stray b c u v h)))

-- ---- the weights, at a part of the curve
module _ (n : ℕ) (h : n ≤ 65536) where
  rest_unsigned : T (unsigned (whole 1 ⊖ part n))
  rest_unsigned =
      unsigned_sub binary32 (whole 1) (part n) (round_mono binary32 n 65536 1 (10 ^ 0) (zero-lt-suc 65535) (zero-lt-suc 0) (omega arith)) (unsigned_round binary32 1 (10 ^ 0)) (unsigned_round binary32 n 65536)

  first_unsigned : T (unsigned ((whole 1 ⊖ part n) ⊗ (whole 1 ⊖ part n)))
  first_unsigned = unsigned_mul binary32 (whole 1 ⊖ part n) (whole 1 ⊖ part n) rest_unsigned rest_unsigned

  middle_unsigned : T (unsigned (whole 2 ⊗ ((whole 1 ⊖ part n) ⊗ part n)))
  middle_unsigned =
      unsigned_mul binary32 (whole 2) ((whole 1 ⊖ part n) ⊗ part n) (unsigned_round binary32 2 (10 ^ 0)) (unsigned_mul binary32 (whole 1 ⊖ part n) (part n) rest_unsigned (unsigned_round binary32 n 65536))

  last_unsigned : T (unsigned (part n ⊗ part n))
  last_unsigned = unsigned_mul binary32 (part n) (part n) (unsigned_round binary32 n 65536) (unsigned_round binary32 n 65536)

-- ---- the end of a range
abbrev HasNan : Vec2 → Type 0
HasNan q = (q.x ≡ nan) ⊎ (q.y ≡ nan)

-- by coordinate: that of the one or of the other
ByAxis : Vec2 → Vec2 → Type 0
ByAxis p q = (Stray p.x ⊎ Stray q.x) ⊎ (Stray p.y ⊎ Stray q.y)

by_axis : (p q : Vec2) → NotFinite p ⊎ NotFinite q → ByAxis p q
unfolding ByAxis
by_axis p q (inl (inl h)) = inl (inl h)
by_axis p q (inl (inr h)) = inr (inl h)
by_axis p q (inr (inl h)) = inl (inr h)
by_axis p q (inr (inr h)) = inr (inr h)

module _ (ps : List Vec2) (inner : ByAxis (point ps 1) (point ps 2)) where
  deriv_has_nan : (n : ℕ) → n ≤ 65536 → HasNan (cubic_deriv ps (part n))
  unfolding cubic_deriv add_of mul_of sub_of ByAxis
  deriv_has_nan n h = elim inner [
    | inl k ↦ inl (deriv_nan (point ps 0).x (point ps 1).x (point ps 2).x (point ps 3).x _ _ _ (first_unsigned n h) (middle_unsigned n h) (last_unsigned n h) k)
    | inr k ↦ inr (deriv_nan (point ps 0).y (point ps 1).y (point ps 2).y (point ps 3).y _ _ _ (first_unsigned n h) (middle_unsigned n h) (last_unsigned n h) k)
  ]

  point_not_finite : (t : Float) → NotFinite (cubic_point ps t)
  unfolding cubic_point add_of mul_of ByAxis
  point_not_finite t = elim inner [
    | inl k ↦ inl (point_stray (point ps 0).x (point ps 1).x (point ps 2).x (point ps 3).x _ _ _ _ t k)
    | inr k ↦ inr (point_stray (point ps 0).y (point ps 1).y (point ps 2).y (point ps 3).y _ _ _ _ t k)
  ]

squares_nan : (x y : Float) → (x ≡ nan) ⊎ (y ≡ nan) → x ⊗ x ⊕ y ⊗ y ≡ nan
squares_nan x y (inl e) = rw (e, nan_mul, nan_add)
squares_nan x y (inr e) = rw (e, nan_mul, add_nan)

not_short : (q : Vec2) → HasNan q → is_short q ≡ false
unfolding is_short length_squared_of dot_of
not_short q h = rw (squares_nan q.x q.y h, nan_lt)

tip_stays : (ps : List Vec2) (t : Float) → is_short (cubic_deriv ps t) ≡ false → tip_at ps t ≡ record { p = cubic_point ps t; q = cubic_deriv ps t; t = t }
unfolding tip_at cubic_at
tip_stays ps t h = rw h

-- ---- a range that ends there has no count
long_chord_lem : (p q : Vec2) → NotFinite p → lt (length_squared_of (sub_of p q)) (tangent_thresh ⊗ tangent_thresh) ≡ false
unfolding length_squared_of dot_of sub_of
long_chord_lem p q (inl h) =
    let x = p.x ⊖ q.x in
    let y = p.y ⊖ q.y in
    above_all (x ⊗ x ⊕ y ⊗ y) _ (beyond_add binary32 false (x ⊗ x) (y ⊗ y) (beyond_square binary32 x (stray_sub binary32 p.x q.x h)))
long_chord_lem p q (inr h) =
    let x = p.x ⊖ q.x in
    let y = p.y ⊖ q.y in
    above_all (x ⊗ x ⊕ y ⊗ y) _ (add_beyond binary32 false (x ⊗ x) (y ⊗ y) (beyond_square binary32 y (stray_sub binary32 p.y q.y h)))

along_nan : (q c : Vec2) → HasNan q → q.x ⊗ c.x ⊕ q.y ⊗ c.y ≡ nan
along_nan q c (inl e) = rw (e, nan_mul, nan_add)
along_nan q c (inr e) = rw (e, nan_mul, add_nan)

long_angle_nan : (chord : Vec2) (squared length : Float) (q0 q1 : Vec2) (dt : Float) → HasNan q1 → (long_chord chord squared length q0 q1 dt).th1 ≡ nan
unfolding long_chord angle_of
long_angle_nan chord squared length q0 q1 dt h = rw (along_nan q1 chord h, atan2_nan_x)

angle_nan : (p0 p1 q0 q1 : Vec2) (dt : Float) → NotFinite p1 → HasNan q1 → (from_points_derivs p0 p1 q0 q1 dt).th1 ≡ nan
unfolding from_points_derivs
angle_nan p0 p1 q0 q1 dt h k = rw (long_chord_lem p1 p0 h) (long_angle_nan (sub_of p1 p0) _ _ q0 q1 dt k)

curvature_nan : (a b : Float) → b ≡ nan → (from_angles a b).k1 ≡ nan
unfolding from_angles
curvature_nan a b e = rw (e, nan_sub, nan_mul)

frac_nan : (k0 k1 dist : Float) → k1 ≡ nan → n_frac_of (robust_of k0 k1 dist) k0 k1 dist ≡ nan
unfolding robust_of
frac_nan k0 k1 dist e = rw (e, abs_nan, nan_lt) (go (lt (abs_of dist) (dec 1 3)))
  where
    go : (b : Bool) → n_frac_of (cond b (low_dist_of k0 nan) (normal_of k0 nan dist)) k0 nan dist ≡ nan
    go true = unfold n_frac_of low_dist_of in div_nan binary32 _
    go false = unfold n_frac_of normal_of in rw (mul_nan binary32 (neg (whole 2) ⊗ dist)) (div_nan binary32 _)

count_nan : (offset scale : Float) (p0 p1 : Vec2) (c : CubicParams) → c.th1 ≡ nan → (fit_of offset scale p0 p1 c).n ≡ nan
unfolding fit_of
count_nan offset scale p0 p1 c e = rw (frac_nan _ _ _ (curvature_nan c.th0 c.th1 e), nan_mul, ceil_nan, clamp_nan)

-- ---- a side begins with it
data Uncounted : List Event → Type 0 where
  uncounted : {es : List Event} → Uncounted (no_count ∷ es)

uncounted_append : (xs ys : List Event) → Uncounted xs → Uncounted (xs ++ ys)
uncounted_append _ ys uncounted = uncounted

none_counted : (s : Side) (f : Fit) (at end : Vec2) → f.n ≡ nan → Uncounted (range_of s f at end)
unfolding range_of is_nan
none_counted s f at end e = rw e uncounted

module _ (s : Side) (inner : ByAxis (point s.points 1) (point s.points 2)) where
  abbrev Stops : ℕ → ℕ → Front → Trail → Type 0
  Stops d u f t = (u + 1) * 2 ^ d ≤ 65536 → Uncounted (flatten t.ranges)

  range_nan : (n : ℕ) (f : Front) → n ≤ 65536 → (params_of f.tip (tip_at s.points (part n))).th1 ≡ nan
  unfolding params_of
  range_nan n f h =
      let q = deriv_has_nan s.points inner n h in
      rw (tip_stays s.points (part n) (not_short (cubic_deriv s.points (part n)) q)) (angle_nan _ _ _ _ _ (point_not_finite s.points inner (part n)) q)

  leaf : (d u : ℕ) (f : Front) → Stops d u f (accepted s f (tip_of s d u))
  unfolding accepted flatten tip_of
  leaf d u f h = rw append-nil (none_counted s _ f.at _ (count_nan _ _ _ _ _ (range_nan ((u + 1) * 2 ^ d) f h)))

  join : (d u : ℕ) (f : Front) (a : Trail) (b : Front → Trail) → Stops d (u * 2) f a → Stops d (u * 2 + 1) a.front (b a.front) → Stops (suc d) u f (onward a b)
  unfolding onward
  join d u f a b h k l = rw flatten_append (uncounted_append (flatten a.ranges) (flatten (b a.front).ranges) (h (omega (arith, l, ap (λ (x : ℕ). (u + 1) * x) (pow-suc 2 d)))))

  side_stops : is_point s.points ≡ false → Uncounted (side_events s)
  unfolding side_events
  side_stops h = rw h (walks s Stops leaf join 16 0 _ (omega arith))

-- ---- and is refused by 8
stopped : (path : ℕ) (ws : List ℕ) (pen : Pen) {es : List Event} → Uncounted es → draw_all path (sheet ws (Ok pen)) es ≡ sheet ws (halt NoCount pen.count)
unfolding draw_all draw draw_on is_stopped
stopped path ws pen (uncounted {es}) = sym (absorbs path ws (halt NoCount pen.count) es refl)

device_inner : (cubic : List Vec2) (z : List Float) (offset : Float) → NotFinite (apply_of z (point cubic 1)) ⊎ NotFinite (apply_of z (point cubic 2))
    → ByAxis (point (device_side cubic z offset).points 1) (point (device_side cubic z offset).points 2)
unfolding device_side
device_inner cubic z offset h = by_axis (apply_of z (point cubic 1)) (apply_of z (point cubic 2)) h

pub inner_refused : (cubic : List Vec2) (z : List Float) (offset : Float) (start end : Vec2) → eq offset (whole 0) ≡ true → is_point (device_side cubic z offset).points ≡ false
    → NotFinite (apply_of z (point cubic 1)) ⊎ NotFinite (apply_of z (point cubic 2))
    → (path : ℕ) (ws : List ℕ) (pen : Pen) → draw_all path (sheet ws (Ok pen)) (euler_events cubic z offset start end) ≡ sheet ws (halt NoCount pen.count)
unfolding euler_events
inner_refused cubic z offset start end device apart h path ws pen =
    rw device (stopped path ws pen (side_stops (device_side cubic z offset) (device_inner cubic z offset h) apart))

-- ---- wherever the point is: at an end or inside, by 5 or 8, or by 6 for want of room
pub any_refused : (cubic : List Vec2) (z : List Float) (offset : Float) (start end : Vec2) → eq offset (whole 0) ≡ true → is_point (device_side cubic z offset).points ≡ false
    → (i : ℕ) → i < 4 → NotFinite (apply_of z (point cubic i))
    → (path : ℕ) (ws : List ℕ) (pen : Pen) → Refused ws (draw_all path (sheet ws (Ok pen)) (euler_events cubic z offset start end)).drawn
any_refused cubic z offset start end device apart i l h path ws pen = go i l h
  where
    inside : NotFinite (apply_of z (point cubic 1)) ⊎ NotFinite (apply_of z (point cubic 2)) → Refused ws (draw_all path (sheet ws (Ok pen)) (euler_events cubic z offset start end)).drawn
    inside k = subst (λ (s : Sheet). Refused ws s.drawn) (sym (inner_refused cubic z offset start end device apart k path ws pen)) (count_is_none pen.count)

    go : (i : ℕ) → i < 4 → NotFinite (apply_of z (point cubic i)) → Refused ws (draw_all path (sheet ws (Ok pen)) (euler_events cubic z offset start end)).drawn
    go zero l k = infinite_refused cubic z offset start end device apart (inl k) path ws pen
    go (suc zero) l k = inside (inl k)
    go (suc (suc zero)) l k = inside (inr k)
    go (suc (suc (suc zero))) l k = infinite_refused cubic z offset start end device apart (inr k) path ws pen
    go (suc (suc (suc (suc j)))) l k = absurd (omega (arith, l))

-- ---- as it is read

-- no transform makes such a point finite
pub apply_not_finite : (z : List Float) (p : Vec2) → NotFinite p → NotFinite (apply_of z p)
unfolding apply_of
apply_not_finite z p (inl h) = inl (stray_add binary32 _ (get_or z 4 nan) (stray_add binary32 _ (get_or z 2 nan ⊗ p.y) (mul_stray binary32 (get_or z 0 nan) p.x h)))
apply_not_finite z p (inr h) = inl (stray_add binary32 _ (get_or z 4 nan) (add_stray binary32 (get_or z 0 nan ⊗ p.x) _ (mul_stray binary32 (get_or z 2 nan) p.y h)))

-- the inner points of a quad are mixed of its control point p and its ends
pub mix_not_finite : (p q : Vec2) (t : Float) → NotFinite p → NotFinite (mix_of p q t)
unfolding mix_of
mix_not_finite p q t (inl h) = inl (stray_add binary32 p.x ((q.x ⊖ p.x) ⊗ t) h)
mix_not_finite p q t (inr h) = inr (stray_add binary32 p.y ((q.y ⊖ p.y) ⊗ t) h)
