-- What the functions of `euler` give, line by line as the source computes it. Definitions only.
use Rattle.std.specs.Prelude.{cond, Float}
use Rattle.std.specs.Float.Ieee.{neg, lt}
use Rattle.laws.specs.Binary32.{◌⊕◌, ◌⊖◌, ◌⊗◌, ◌⊘◌, dec, whole}
use Rattle.maths.specs.Numbers.{abs_of, copysign_of, max_of}
use Rattle.maths.specs.Roots.{sqrt_of, cbrt_of, two_thirds_of, hypot_of}
use Rattle.maths.specs.Trig.{sin_of, cos_of, asin_of}
use Rattle.spiral.specs.Util.{new_of, add_of, sub_of, length_of, length_squared_of, angle_of}
use Rattle.spiral.specs.declared.util.Vec2.{Vec2}
use Rattle.spiral.specs.declared.euler.CubicParams.{CubicParams}
use Rattle.spiral.specs.declared.euler.EulerParams.{EulerParams}
use Rattle.spiral.specs.declared.euler.EulerSeg.{EulerSeg}
use Rattle.spiral.specs.declared.euler.Integral.{Integral}

abbrev pub tangent_thresh : Float
tangent_thresh = dec 1 6

abbrev pub frac_pi4 : Float
frac_pi4 = dec 785398163397448309615660845819875721 36

abbrev pub half : Float
half = dec 5 1

-- ---- CubicParams

-- a chord near zero: a straight line
unfoldable pub short_chord : Vec2 → Vec2 → Float → CubicParams
short_chord q0 q1 dt =
    let chordErr = sqrt_of ((whole 9 ⊘ whole 32) ⊗ (length_squared_of q0 ⊕ length_squared_of q1)) ⊗ dt in
    record { th0 = whole 0; th1 = whole 0; chord_len = tangent_thresh; err = chordErr }

-- the error over the chord's length: where the tangents do not turn back, and in general
unfoldable pub fitted_error : Float → Float → Float → Float → Float → Float → Float
fitted_error th0 th1 d0 d1 cth0 cth1 =
    let e0 = (whole 2 ⊘ whole 3) ⊘ max_of (whole 1 ⊕ cth0) (dec 1 9) in
    let e1 = (whole 2 ⊘ whole 3) ⊘ max_of (whole 1 ⊕ cth1) (dec 1 9) in
    let s0 = sin_of th0 in
    let s1 = sin_of th1 in
    let s01 = cth0 ⊗ s1 ⊕ cth1 ⊗ s0 in
    let amin = dec 15 2 ⊗ (whole 2 ⊗ e0 ⊗ s0 ⊕ whole 2 ⊗ e1 ⊗ s1 ⊖ e0 ⊗ e1 ⊗ s01) in
    let a = dec 15 2 ⊗ (whole 2 ⊗ d0 ⊗ s0 ⊕ whole 2 ⊗ d1 ⊗ s1 ⊖ d0 ⊗ d1 ⊗ s01) in
    let aerr = abs_of (a ⊖ amin) in
    let symm = abs_of (th0 ⊕ th1) in
    let asymm = abs_of (th0 ⊖ th1) in
    let dist = hypot_of (d0 ⊖ e0) (d1 ⊖ e1) in
    let symm2 = symm ⊗ symm in
    let symm5 = symm ⊗ (symm2 ⊗ symm2) in
    let ctr = dec 4625 9 ⊗ symm5 ⊕ dec 75 4 ⊗ asymm ⊗ symm2 in
    let haloSymm = dec 5 3 ⊗ symm ⊗ dist in
    let haloAsymm = dec 7 2 ⊗ asymm ⊗ dist in
    ctr ⊕ dec 155 2 ⊗ aerr ⊕ haloSymm ⊕ haloAsymm

unfoldable pub error_ratio : Float → Float → Float → Float → Float
error_ratio th0 th1 d0 d1 =
    let cth0 = cos_of th0 in
    let cth1 = cos_of th1 in
    cond (lt (cth0 ⊗ cth1) (whole 0)) (whole 2) (fitted_error th0 th1 d0 d1 cth0 cth1)

unfoldable pub long_chord : Vec2 → Float → Float → Vec2 → Vec2 → Float → CubicParams
long_chord chord squared length q0 q1 dt =
    let scale = dt ⊘ squared in
    let h0 = new_of (q0.x ⊗ chord.x ⊕ q0.y ⊗ chord.y) (q0.y ⊗ chord.x ⊖ q0.x ⊗ chord.y) in
    let th0 = angle_of h0 in
    let d0 = length_of h0 ⊗ scale in
    let h1 = new_of (q1.x ⊗ chord.x ⊕ q1.y ⊗ chord.y) (q1.x ⊗ chord.y ⊖ q1.y ⊗ chord.x) in
    let th1 = angle_of h1 in
    let d1 = length_of h1 ⊗ scale in
    record { th0 = th0; th1 = th1; chord_len = length; err = error_ratio th0 th1 d0 d1 ⊗ length }

unfoldable pub from_points_derivs : Vec2 → Vec2 → Vec2 → Vec2 → Float → CubicParams
from_points_derivs p0 p1 q0 q1 dt =
    let chord = sub_of p1 p0 in
    let chordSquared = length_squared_of chord in
    let chordLen = sqrt_of chordSquared in
    cond (lt chordSquared (tangent_thresh ⊗ tangent_thresh))
    (short_chord q0 q1 dt)
    (long_chord chord chordSquared chordLen q0 q1 dt)

-- ---- EulerParams

-- a and ch grow step by step, as in the source
unfoldable pub from_angles : Float → Float → EulerParams
from_angles th0 th1 =
    let k0 = th0 ⊕ th1 in
    let dth = th1 ⊖ th0 in
    let d2 = dth ⊗ dth in
    let k2 = k0 ⊗ k0 in
    let a = whole 6 in
    let a = a ⊖ d2 ⊗ (whole 1 ⊘ whole 70) in
    let a = a ⊖ (d2 ⊗ d2) ⊗ (whole 1 ⊘ whole 10780) in
    let a = a ⊕ (d2 ⊗ d2 ⊗ d2) ⊗ dec 2769178184818219 22 in
    let b = neg (dec 1 1) ⊕ d2 ⊗ (whole 1 ⊘ whole 4200) ⊕ d2 ⊗ d2 ⊗ dec 16959677820260655 21 in
    let c = neg (whole 1) ⊘ whole 1400 ⊕ d2 ⊗ dec 684915970574303 19 ⊖ k2 ⊗ dec 7936475029053326 21 in
    let a = a ⊕ (b ⊕ c ⊗ k2) ⊗ k2 in
    let k1 = dth ⊗ a in
    let ch = whole 1 in
    let ch = ch ⊖ d2 ⊗ (whole 1 ⊘ whole 40) in
    let ch = ch ⊕ (d2 ⊗ d2) ⊗ dec 34226190482569864 20 in
    let ch = ch ⊖ (d2 ⊗ d2 ⊗ d2) ⊗ dec 19349474568904524 22 in
    let b = neg (whole 1) ⊘ whole 24 ⊕ d2 ⊗ dec 24702380951963226 19 ⊖ d2 ⊗ d2 ⊗ dec 37297408997537985 21 in
    let c = whole 1 ⊘ whole 1920 ⊖ d2 ⊗ dec 487350869747975 19 ⊖ k2 ⊗ dec 31001936068463107 22 in
    let ch = ch ⊕ (b ⊕ c ⊗ k2) ⊗ k2 in
    record { th0 = th0; k0 = k0; k1 = k1; ch = ch }

-- the tangent's angle at t
unfoldable pub eval_th : EulerParams → Float → Float
eval_th e t = (e.k0 ⊕ half ⊗ e.k1 ⊗ (t ⊖ whole 1)) ⊗ t ⊖ e.th0

-- integ_euler_10, whose pair is u and v
unfoldable pub integ_euler10 : Float → Float → Integral
integ_euler10 k0 k1 =
    let t1-1 = k0 in
    let t1-2 = half ⊗ k1 in
    let t2-2 = t1-1 ⊗ t1-1 in
    let t2-3 = whole 2 ⊗ (t1-1 ⊗ t1-2) in
    let t2-4 = t1-2 ⊗ t1-2 in
    let t3-4 = t2-2 ⊗ t1-2 ⊕ t2-3 ⊗ t1-1 in
    let t3-6 = t2-4 ⊗ t1-2 in
    let t4-4 = t2-2 ⊗ t2-2 in
    let t4-5 = whole 2 ⊗ (t2-2 ⊗ t2-3) in
    let t4-6 = whole 2 ⊗ (t2-2 ⊗ t2-4) ⊕ t2-3 ⊗ t2-3 in
    let t4-7 = whole 2 ⊗ (t2-3 ⊗ t2-4) in
    let t4-8 = t2-4 ⊗ t2-4 in
    let t5-6 = t4-4 ⊗ t1-2 ⊕ t4-5 ⊗ t1-1 in
    let t5-8 = t4-6 ⊗ t1-2 ⊕ t4-7 ⊗ t1-1 in
    let t6-6 = t4-4 ⊗ t2-2 in
    let t6-7 = t4-4 ⊗ t2-3 ⊕ t4-5 ⊗ t2-2 in
    let t6-8 = t4-4 ⊗ t2-4 ⊕ t4-5 ⊗ t2-3 ⊕ t4-6 ⊗ t2-2 in
    let t7-8 = t6-6 ⊗ t1-2 ⊕ t6-7 ⊗ t1-1 in
    let t8-8 = t6-6 ⊗ t2-2 in
    let u = whole 1 in
    let u = u ⊖ ((whole 1 ⊘ whole 24) ⊗ t2-2 ⊕ (whole 1 ⊘ whole 160) ⊗ t2-4) in
    let u = u ⊕ ((whole 1 ⊘ whole 1920) ⊗ t4-4 ⊕ (whole 1 ⊘ whole 10752) ⊗ t4-6 ⊕ (whole 1 ⊘ whole 55296) ⊗ t4-8) in
    let u = u ⊖ ((whole 1 ⊘ whole 322560) ⊗ t6-6 ⊕ (whole 1 ⊘ whole 1658880) ⊗ t6-8) in
    let u = u ⊕ (whole 1 ⊘ whole 92897280) ⊗ t8-8 in
    let v = (whole 1 ⊘ whole 12) ⊗ t1-2 in
    let v = v ⊖ ((whole 1 ⊘ whole 480) ⊗ t3-4 ⊕ (whole 1 ⊘ whole 2688) ⊗ t3-6) in
    let v = v ⊕ ((whole 1 ⊘ whole 53760) ⊗ t5-6 ⊕ (whole 1 ⊘ whole 276480) ⊗ t5-8) in
    let v = v ⊖ (whole 1 ⊘ whole 11612160) ⊗ t7-8 in
    record { u = u; v = v }

-- the point at t, and the one at an offset from it
unfoldable pub eval_of : EulerParams → Float → Vec2
eval_of e t =
    let thm = eval_th e (t ⊗ half) in
    let uv = integ_euler10 ((e.k0 ⊕ e.k1 ⊗ (half ⊗ t ⊖ half)) ⊗ t) (e.k1 ⊗ t ⊗ t) in
    let s = t ⊘ e.ch ⊗ sin_of thm in
    let c = t ⊘ e.ch ⊗ cos_of thm in
    new_of (uv.u ⊗ c ⊖ uv.v ⊗ s) (neg uv.v ⊗ c ⊖ uv.u ⊗ s)

unfoldable pub eval_with_offset : EulerParams → Float → Float → Vec2
eval_with_offset e t offset =
    let th = eval_th e t in
    add_of (eval_of e t) (new_of (offset ⊗ sin_of th) (offset ⊗ cos_of th))

-- ---- EulerSeg
abbrev pub from_params : Vec2 → Vec2 → EulerParams → EulerSeg
from_params p0 p1 params = record { p0 = p0; p1 = p1; params = params }

-- EulerSeg::eval_with_offset
unfoldable pub point_of : EulerSeg → Float → Float → Vec2
point_of seg t offset =
    let chord = sub_of seg.p1 seg.p0 in
    let p = eval_with_offset seg.params t offset in
    new_of
    (seg.p0.x ⊕ chord.x ⊗ p.x ⊖ chord.y ⊗ p.y)
    (seg.p0.y ⊕ chord.x ⊗ p.y ⊕ chord.y ⊗ p.x)

-- ---- the integral of the offset curve, and its inverse
abbrev pub sin_scale : Float
sin_scale = dec 10976991822760038 16

abbrev pub quad_a1 : Float
quad_a1 = dec 6406 4

abbrev pub quad_b1 : Float
quad_b1 = neg (dec 81 2)

abbrev pub quad_c1 : Float
quad_c1 = dec 9148117935952064 16

abbrev pub quad_a2 : Float
quad_a2 = dec 5 1

abbrev pub quad_b2 : Float
quad_b2 = neg (dec 156 3)

abbrev pub quad_c2 : Float
quad_c2 = dec 16145779359520596 17

unfoldable pub near_curve : Float → Float
near_curve y = (sqrt_of (whole 8) ⊘ whole 3) ⊗ (y ⊖ whole 1) ⊗ sqrt_of (abs_of (y ⊖ whole 1)) ⊕ frac_pi4

-- by the breaks 0.8, 1.25 and 2.1
unfoldable pub espc_curve : Float → Float
espc_curve y =
    cond (lt y (dec 8 1)) (sin_of (sin_scale ⊗ y) ⊗ (whole 1 ⊘ sin_scale))
    (cond (lt y (dec 125 2)) (near_curve y)
    (cond (lt y (dec 21 1)) (quad_a1 ⊗ y ⊗ y ⊕ quad_b1 ⊗ y ⊕ quad_c1)
    (quad_a2 ⊗ y ⊗ y ⊕ quad_b2 ⊗ y ⊕ quad_c2)))

unfoldable pub espc_int_approx : Float → Float
espc_int_approx x = copysign_of (espc_curve (abs_of x)) x

unfoldable pub near_inverse : Float → Float
near_inverse y =
    let b = y ⊖ frac_pi4 in
    let u = copysign_of (two_thirds_of (abs_of b)) b in
    u ⊗ cbrt_of (whole 9 ⊘ whole 8) ⊕ whole 1

-- where a t² + b t + c is y
unfoldable pub quad_inverse : Float → Float → Float → Float → Float
quad_inverse a b c y =
    let w = half ⊗ b ⊘ a in
    let u = w ⊗ w ⊖ c ⊘ a in
    let v = whole 1 ⊘ a in
    sqrt_of (u ⊕ v ⊗ y) ⊖ w

-- x as given and y its size
unfoldable pub espc_inverse : Float → Float → Float
espc_inverse x y =
    cond (lt y (dec 7010707591262915 16)) (asin_of (x ⊗ sin_scale) ⊗ (whole 1 ⊘ sin_scale))
    (cond (lt y (dec 903249293595206 15)) (near_inverse y)
    (cond (lt y (dec 2038857793595206 15)) (quad_inverse quad_a1 quad_b1 quad_c1 y)
    (quad_inverse quad_a2 quad_b2 quad_c2 y)))

unfoldable pub espc_int_inv_approx : Float → Float
espc_int_inv_approx x = copysign_of (espc_inverse x (abs_of x)) x
