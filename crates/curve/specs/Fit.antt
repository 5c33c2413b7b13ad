-- One range of a cubic, in the source's own steps: where it ends, the spiral that is fitted, and the points along it. Definitions only.
use Rattle.std.specs.Prelude.{ℕ, Bool, cond, List, pos, Float}
use Rattle.std.specs.Float.{binary32}
use Rattle.std.specs.Float.Ieee.{neg, lt, of_int}
use Rattle.laws.specs.Binary32.{◌⊕◌, ◌⊖◌, ◌⊗◌, ◌⊘◌, dec, whole}
use Rattle.maths.specs.Numbers.{abs_of, ceil_of, clamp_of}
use Rattle.maths.specs.Roots.{sqrt_of, cbrt_of}
use Rattle.spiral.specs.Util.{sub_of, length_squared_of}
use Rattle.spiral.specs.Euler.{from_points_derivs, from_angles, from_params, point_of, espc_int_approx, espc_int_inv_approx}
use Rattle.spiral.specs.declared.util.Vec2.{Vec2}
use Rattle.spiral.specs.declared.euler.CubicParams.{CubicParams}
use Rattle.drawing.specs.Cubic.{point, cubic_at}
use Rattle.curve.specs.declared.fit.Tip.{Tip}
use Rattle.curve.specs.declared.fit.Fit.{Fit}
use Rattle.curve.specs.declared.fit.EspcRobust.{EspcRobust}
use Rattle.curve.specs.declared.fit.EspcRobust.TheVariants.{LowK1, LowDist, Normal}

-- ---- where a range ends

-- shorter than 1e-6
unfoldable pub is_short : Vec2 → Bool
is_short q = lt (length_squared_of q) (dec 1 6 ⊗ dec 1 6)

-- a short derivative is taken nearby, 1e-6 away
unfoldable pub first_tip : List Vec2 → Tip
first_tip ps =
    let q = sub_of (point ps 1) (point ps 0) in
    record { p = point ps 0; q = cond (is_short q) (cubic_at ps (dec 1 6)).q q; t = whole 0 }

-- the point moves along with it, but not at the end of the curve
unfoldable pub tip_at : List Vec2 → Float → Tip
tip_at ps t =
    let here = cubic_at ps t in
    let near = cubic_at ps (t ⊖ dec 1 6) in
    cond (is_short here.q)
    (cond (lt t (whole 1)) (record { p = near.p; q = near.q; t = t ⊖ dec 1 6 }) (record { p = here.p; q = near.q; t = t }))
    (record { p = here.p; q = here.q; t = t })

unfoldable pub params_of : Tip → Tip → CubicParams
params_of from to = from_points_derivs from.p to.p from.q to.q (to.t ⊖ from.t)

-- ---- how its points are spread along the offset curve, and how many there are

-- the number of lines for curvature 1: FRAC_1_SQRT_2 / 2 times a root, with tolerance 1/4
unfoldable pub multiplier_of : Float → Float → Float → Float
multiplier_of scale chordLen ch =
    dec 5 1 ⊗ dec 707106781186547524400844362104849039 36 ⊗ sqrt_of (scale ⊗ chordLen ⊘ (ch ⊗ dec 25 2))

unfoldable pub integrand_of : Float → Float → Float
integrand_of k dist = sqrt_of (abs_of (k ⊗ (k ⊗ dist ⊕ whole 1)))

unfoldable pub times_root : Float → Float
times_root x = x ⊗ sqrt_of (abs_of x)

unfoldable pub low_dist_of : Float → Float → EspcRobust
low_dist_of k0 k1 =
    LowDist (record { a = k1; b = k0; integral = times_root (k1 ⊕ k0) ⊖ times_root k0; int0 = times_root k0 })

unfoldable pub normal_of : Float → Float → Float → EspcRobust
normal_of k0 k1 dist =
    let a = neg (whole 2) ⊗ dist ⊗ k1 in
    let b = neg (whole 1) ⊖ whole 2 ⊗ dist ⊗ k0 in
    Normal (record { a = a; b = b; integral = espc_int_approx (a ⊕ b) ⊖ espc_int_approx b; int0 = espc_int_approx b })

unfoldable pub robust_of : Float → Float → Float → EspcRobust
robust_of k0 k1 dist =
    cond (lt (abs_of k1) (dec 1 3)) LowK1 (cond (lt (abs_of dist) (dec 1 3)) (low_dist_of k0 k1) (normal_of k0 k1 dist))

-- the number of lines over the multiplier
unfoldable pub n_frac_of : EspcRobust → Float → Float → Float → Float
n_frac_of LowK1 k0 k1 dist = integrand_of (k0 ⊕ dec 5 1 ⊗ k1) dist
n_frac_of (LowDist e) k0 k1 dist = (whole 2 ⊘ whole 3) ⊗ e.integral ⊘ e.a
n_frac_of (Normal e) k0 k1 dist = e.integral ⊗ integrand_of (k0 ⊖ k1 ⊗ e.b ⊘ e.a) dist ⊘ e.a

-- offset, scale, the ends of the range, and what was read off the cubic
unfoldable pub fit_of : Float → Float → Vec2 → Vec2 → CubicParams → Fit
fit_of offset scale p0 p1 c =
    let e = from_angles c.th0 c.th1 in
    let k1 = e.k1 in
    let k0 = e.k0 ⊖ dec 5 1 ⊗ k1 in
    let normalized = offset ⊘ c.chord_len in
    let dist = normalized ⊗ e.ch in
    let robust = robust_of k0 k1 dist in
    record {
      seg = from_params p0 p1 e;
      offset = normalized;
      robust = robust;
      n = clamp_of (ceil_of (n_frac_of robust k0 k1 dist ⊗ multiplier_of scale c.chord_len e.ch)) (whole 1) (whole 100);
    }

-- ---- its points

-- the parameter of the spiral at a part t of the lines
unfoldable pub spread_of : EspcRobust → Float → Float
spread_of LowK1 t = t
spread_of (LowDist e) t =
    let c = cbrt_of (e.integral ⊗ t ⊕ e.int0) in
    (c ⊗ abs_of c ⊖ e.b) ⊘ e.a
spread_of (Normal e) t = (espc_int_inv_approx (e.integral ⊗ t ⊕ e.int0) ⊖ e.b) ⊘ e.a

-- where line i ends, the first being line 1
unfoldable pub place_of : Fit → ℕ → Vec2
place_of f i = point_of f.seg (spread_of f.robust (of_int binary32 (pos i) ⊘ f.n)) f.offset
