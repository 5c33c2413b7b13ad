-- sin, cos, atan2, asin and acos of an f32, each a fixed sequence of binary32 operations, rounded one by one. Definitions only.
use Rattle.std.specs.Prelude.{ℕ, ◌+◌, ◌-◌, ◌*◌, ◌/◌, ◌%◌, ◌^◌, ◌||◌, cond, pos, T, leb, eqb, Float}
use Rattle.std.specs.Float.{nan, binary32}
use Rattle.std.specs.Float.Ieee.{of_int, to_unsigned, to_bits, is_nan, lt, le, eq}
use Rattle.laws.specs.Binary32.{◌⊕◌, ◌⊖◌, ◌⊗◌, ◌⊘◌, f32}
use Rattle.numbers.specs.Words.{sign_of, signed, abs_of}
use Rattle.roots.specs.Root.{sqrt_of}
use Rattle.trig.specs.declared.Turn.{Turn}

-- ---- numbers, by their bits. π/2 and π are the nearest f32: 1.57079637, 3.14159274
abbrev pub zero : Float
zero = f32 0

abbrev pub minus_zero : Float
minus_zero = f32 0x80000000

abbrev pub half : Float
half = f32 0x3f000000

abbrev pub one : Float
one = f32 0x3f800000

abbrev pub minus_one : Float
minus_one = f32 0xbf800000

abbrev pub half_pi : Float
half_pi = f32 0x3fc90fdb

abbrev pub minus_half_pi : Float
minus_half_pi = f32 0xbfc90fdb

abbrev pub pi : Float
pi = f32 0x40490fdb

abbrev pub minus_pi : Float
minus_pi = f32 0xc0490fdb

abbrev pub infinity : Float
infinity = f32 0x7f800000

-- v lies in lo to hi
pub record Within (lo hi v : Float) : Type 0 where
  pub low : T (le lo v)
  pub high : T (le v hi)

-- v brought between lo and hi; a NaN becomes lo
unfoldable pub bounded_of : Float → Float → Float → Float
bounded_of lo hi v = cond (lt lo v) (cond (lt v hi) v hi) lo

-- ---- sin, cos

-- near 0: r - 0.166666552 r³ + 0.00833205506 r⁵ - 0.000194948792 r⁷
unfoldable pub sin_near : Float → Float
sin_near r = let z = r ⊗ r in ((f32 0xb94c6b2b ⊗ z ⊕ f32 0x3c08832c) ⊗ z ⊕ f32 0xbe2aaaa3) ⊗ (z ⊗ r) ⊕ r

-- near 0: 1 - 0.499999017 r² + 0.0416564010 r⁴ - 0.00135977037 r⁶
unfoldable pub cos_near : Float → Float
cos_near r = let z = r ⊗ r in ((f32 0xbab23a53 ⊗ z ⊕ f32 0x3d2a9fe7) ⊗ z ⊕ f32 0xbeffffdf) ⊗ z ⊕ one

-- the whole number k of quarter turns nearest to the angle a, by 0.636619747 of them to 1, and what is left: a - k π/2, with π/2
-- in three parts, 1.57080078125 - 4.45451587e-6 + 6.07710063e-11
unfoldable pub quarters_of : Float → Turn
quarters_of a =
    let k = to_unsigned 32 (a ⊗ f32 0x3f22f983 ⊕ half) in
    let f = of_int binary32 (pos k) in
    record { quarters = k; rest = a ⊖ f ⊗ f32 0x3fc91000 ⊖ f ⊗ f32 0xb6957800 ⊖ f ⊗ f32 0x2e85a309 }

-- 2/π to 192 binary digits, ⌊2/π · 2 ^ 192⌋: 0.a2f9836e 4e441529 fc2757d1 f534ddc0 db629599 3c439041 in hex. To check it, with
-- any program for long numbers: two_over_pi is at most 2/π · 2 ^ 192, and two_over_pi + 1 is more
unfoldable pub two_over_pi : ℕ
two_over_pi = 0xa2f9836e4e441529fc2757d1f534ddc0db6295993c439041

-- the word of a large angle, m · 2 ^ (e - 150) with 24 digits in m: how many quarter turns it is, m · 2 ^ (e - 150) · 2/π, in units of
-- 2 ^ -38, and half a quarter turn more. Of 2/π those digits are left out that m times makes less than one unit
unfoldable pub units_of : ℕ → ℕ
units_of b =
    let m = 2 ^ 23 + b % 2 ^ 23 in
    let e = b / 2 ^ 23 % 256 in
    m * (two_over_pi / 2 ^ (280 - e)) / 2 ^ 24 + 2 ^ 37

-- u units: the whole quarter turns in them, modulo 4, and of the f units left, less that half, the angle (f - 2 ^ 37) · 2 ^ -38 · π/2. A
-- float has too few digits for f, so it is taken in two parts: 2 ^ 19 units are π/2 · 2 ^ -19, one is π/2 · 2 ^ -38
unfoldable pub parted_of : ℕ → Turn
parted_of u =
    let f = u % 2 ^ 38 in
    let high = of_int binary32 (pos (f / 2 ^ 19)) in
    let low = of_int binary32 (pos (f % 2 ^ 19)) in
    record { quarters = u / 2 ^ 38 % 4; rest = (high ⊖ f32 0x48800000) ⊗ f32 0x36490fdb ⊕ low ⊗ f32 0x2cc90fdb }

unfoldable pub large_of : Float → Turn
large_of a = parted_of (units_of (to_bits binary32 a))

-- the reduction: below 0.78125 the angle is its own rest, and above 1024 it is large
unfoldable pub far_of : Float → Turn
far_of a = cond (le a (f32 0x44800000)) (quarters_of a) (large_of a)

unfoldable pub reduced_of : Float → Turn
reduced_of a = cond (lt a (f32 0x3f480000)) (record { quarters = 0; rest = a }) (far_of a)

-- sin (k π/2 + r)
unfoldable pub curve_of : ℕ → Float → Float
curve_of k r = cond (eqb (k % 2) 0) (sin_near r) (cos_near r)

unfoldable pub wave_of : ℕ → Float → Float
wave_of k r = bounded_of minus_one one (signed (leb 2 (k % 4)) (curve_of k r))

unfoldable pub sin_of : Float → Float
sin_of x = let t = reduced_of (abs_of x) in cond (lt (abs_of x) infinity) (signed (sign_of x) (wave_of t.quarters t.rest)) nan

-- sin, a quarter turn on
unfoldable pub cos_of : Float → Float
cos_of x = let t = reduced_of (abs_of x) in cond (lt (abs_of x) infinity) (wave_of (t.quarters + 1) t.rest) nan

-- ---- atan2

-- the arc tangent of -1 to 1: t - 0.333329856 t³ + 0.199903980 t⁵ - 0.141859725 t⁷ + 0.105739325 t⁹ - 0.0736672208 t¹¹
-- + 0.0411220305 t¹³ - 0.0151326312 t¹⁵ + 0.00262226630 t¹⁷
unfoldable pub atan_near : Float → Float
atan_near t =
    let z = t ⊗ t in
    let w = z ⊗ z in
    let a = f32 0x3e4cb3a1 ⊗ z ⊕ f32 0xbeaaaa36 in
    let b = f32 0x3dd88ddc ⊗ z ⊕ f32 0xbe1143ad in
    let c = f32 0x3d286f93 ⊗ z ⊕ f32 0xbd96ded7 in
    let d = f32 0x3b2bda54 ⊗ z ⊕ f32 0xbc77eedb in
    (a ⊕ b ⊗ w ⊕ (c ⊕ d ⊗ w) ⊗ (w ⊗ w)) ⊗ (z ⊗ t) ⊕ t

-- y / a, which is 1 where they are equal, infinities too
unfoldable pub slope_of : Float → Float → Float
slope_of y a = cond (eq y a) one (y ⊘ a)

-- the angle of the point (x, y), for a y that is not negative
unfoldable pub angle_of : Float → Float → Float
angle_of y x =
    let a = abs_of x in
    let p = atan_near (slope_of y a) in
    cond (eq y zero) (cond (sign_of x) pi zero)
    (cond (lt a y) (half_pi ⊖ atan_near (x ⊘ y)) (cond (sign_of x) (pi ⊖ p) p))

unfoldable pub atan2_of : Float → Float → Float
atan2_of y x = cond (is_nan y || is_nan x) nan (signed (sign_of y) (bounded_of zero pi (angle_of (abs_of y) x)))

-- ---- asin, acos

-- the arc sine of s, up to a half, with z its square: s + 0.166668117 s³ + 0.0749312490 s⁵ + 0.0457114875 s⁷ + 0.0231411029 s⁹
-- + 0.0437192582 s¹¹
unfoldable pub asin_near : Float → Float → Float
asin_near z s =
    let w = z ⊗ z in
    let a = f32 0x3d99758e ⊗ z ⊕ f32 0x3e2aab0c in
    let b = f32 0x3cbd9269 ⊗ z ⊕ f32 0x3d3b3bf8 in
    (a ⊕ (b ⊕ f32 0x3d3312f7 ⊗ w) ⊗ w) ⊗ (z ⊗ s) ⊕ s

-- the arc cosine of a, from a half to 1: twice the arc sine of √((1 - a) / 2)
unfoldable pub acos_near : Float → Float
acos_near a =
    let z = (one ⊖ a) ⊗ half in
    let p = asin_near z (sqrt_of z) in
    p ⊕ p

-- the arc sine of a, from 0 to 1, and the arc cosine of x of size a, before they are bounded
unfoldable pub arc_sine_of : Float → Float
arc_sine_of a = cond (le a half) (asin_near (a ⊗ a) a) (half_pi ⊖ acos_near a)

unfoldable pub arc_cosine_of : Float → Float → Float
arc_cosine_of x a = cond (le a half) (half_pi ⊖ asin_near (x ⊗ x) x) (cond (lt zero x) (acos_near a) (pi ⊖ acos_near a))

unfoldable pub asin_of : Float → Float
asin_of x = cond (le (abs_of x) one) (signed (sign_of x) (bounded_of zero half_pi (arc_sine_of (abs_of x)))) nan

unfoldable pub acos_of : Float → Float
acos_of x = cond (le (abs_of x) one) (bounded_of zero pi (arc_cosine_of x (abs_of x))) nan
