-- A side of which `is_line` holds is one line: the error is within the tolerance, and the count of lines is 1. The limits behind the test are computed. Assumes nothing.
use Rattle.std.specs.Prelude.{◌≡◌, Bool, not, ◌&&◌, cond, ℕ, zero, suc, ◌*◌, ◌<◌, ℤ, pos, leb, Float}
use Rattle.std.proofs.Math.Path.{refl}
use Rattle.std.proofs.Common.{sym, ap, ◌∙◌, subst, zero-le, lt_irrefl, lt_of_le_of_lt, zero-lt-suc, mul-one, zero-mul, leb→le, ltb→lt, lt→ltb}
use Rattle.std.proofs.Math.Bool.{true, false}
use mathlib.Core.List.{List, [], ◌∷◌, flatten}
use Rattle.std.proofs.Math.Dec.{T}
use Rattle.std.specs.Float.{nan, inf, fin, binary32}
use Rattle.std.specs.Float.Ieee.{up, down, fits, is_nan, to_unsigned, round, of_bits, add, sub, mul, div, lt, eq, le}
use Rattle.std.specs.Float.Ieee.Bits.{is_true}
use Rattle.std.specs.Float.Ieee.Fits.{and_l, and_r, add-fits}
use Rattle.std.specs.Float.Ieee.Positive.{positive, num, den, den_pos, positive-finite, between}
use Rattle.laws.specs.Binary32.{◌⊕◌, ◌⊖◌, ◌⊗◌, ◌⊘◌, dec, whole}
use Rattle.laws.specs.Compare.{under_zero}
use Rattle.laws.specs.NotFinite.{unsigned, unsigned_round}
use Rattle.laws.specs.Size.{widened}
use Rattle.laws.specs.Limits.{Small, AtLeast, plain, times, plus, minus, over, own, decimal, most, wider, least_product, compared, not_under, not_under_over, at_fraction}
use Rattle.maths.specs.Numbers.{abs_of, abs_not_below, abs_small, abs_under, small_of_abs}
use Rattle.maths.specs.Roots.{sqrt_of, sqrt_small, sqrt_least}
use Rattle.maths.specs.Trig.{sin_limit, cos_drop}
use Rattle.spiral.specs.Util.{dot_of, length_squared_of}
use Rattle.spiral.specs.Euler.{from_angles, from_points_derivs}
use Rattle.spiral.specs.Straight.{Slight, Along, Flat, start_over, end_over, fitted_limit, not_short, flat_chord, k1_small, ch_small, ch_least}
use Rattle.spiral.specs.declared.util.Vec2.{Vec2}
use Rattle.spiral.specs.declared.euler.CubicParams.{CubicParams}
use Rattle.spiral.specs.declared.euler.EulerParams.{EulerParams}
use Rattle.drawing.specs.Cubic.{cubic_at}
use Rattle.curve.specs.Fit.{is_short, first_tip, tip_at, params_of, multiplier_of, integrand_of, robust_of, n_frac_of, fit_of}
use Rattle.curve.specs.Straight.{factor, one_count}
use Rattle.curve.specs.Curve.{Front, front_of, Trail, line_of, lines_of, range_of, range_end, tip_of, is_near, accepted, walk, is_point, side_events}
use Rattle.curve.specs.Walks.{walk_near}
use Rattle.curve.specs.declared.fit.Tip.{Tip}
use Rattle.curve.specs.declared.Side.{Side}
use Rattle.curve.specs.OneLine.{chord_of, square_of, share_of, room_of, steep_of, is_along, are_along, is_line}

-- ---- the limits, from that of the slopes
abbrev curvature_limit : Float → Float
curvature_limit a = (a ⊕ a) ⊗ dec 61 1

abbrev middle_limit : Float → Float
middle_limit a = a ⊕ a ⊕ dec 5 1 ⊗ curvature_limit a ⊕ dec 5 1 ⊗ curvature_limit a

abbrev bend_limit : Float → Float
bend_limit a = middle_limit a ⊗ (middle_limit a ⊗ (whole 256 ⊘ whole 1 ⊗ dec 101 2) ⊕ whole 1)

abbrev span_limit : Float → Float → Float
span_limit l m = m ⊗ l ⊘ (dec 99 2 ⊗ dec 25 2)

-- v is at least the root of w
abbrev root_over : Float → Float → Bool
root_over v w = fits binary32 v && (positive v && (positive w && leb (num w * (den v * den v)) (num v * num v * den w)))

-- slopes of at most a, a chord of at most l and a scale of at most m make one line; p and q are over the roots that are not taken
abbrev enough : Float → Float → Float → Float → Float → Bool
enough a l m p q =
    (le (fitted_limit a ⊗ l ⊗ m) (dec 25 2) && plain (dec 25 2))
    && (lt (curvature_limit a) (dec 1 3) && (root_over p (bend_limit a) && (root_over q (span_limit l m) && (le (p ⊗ (factor ⊗ q)) (whole 1) && unsigned (whole 1)))))

-- ---- a range whose slopes, chord and scale keep to limits
record Keeps (a l m : Float) (from to : Tip) (offset scale : Float) : Type 0 where
  whole_range : to.t ⊖ from.t ≡ whole 1
  some : T (positive (square_of from to))
  long : T (le (whole 1) (square_of from to))
  not_far : T (le (square_of from to) (fin false 1 (pos 100)))
  chord : Small l (sqrt_of (square_of from to))
  starts : Along a (square_of from to) (start_over from.q (chord_of from to))
  ends : Along a (square_of from to) (end_over to.q (chord_of from to))
  scaled : Small m scale
  scales : AtLeast (dec 95367431640625 20) scale
  off : Small (whole 256) offset

square_fits : (c : Vec2) → T (fits binary32 (length_squared_of c))
unfolding length_squared_of dot_of
square_fits c = add-fits binary32 (c.x ⊗ c.x) (c.y ⊗ c.y)

quarter_least : AtLeast (dec 25 2) (dec 25 2)
unfolding round le
quarter_least = record { above = tt; reached = tt }

divisor_above : T (positive (dec 99 2 ⊗ dec 25 2))
unfolding round mul
divisor_above = tt

factor_unsigned : T (unsigned factor)
unfolding round mul
factor_unsigned = tt

scaled_above : T (positive (dec 95367431640625 20 ⊗ whole 1))
unfolding round mul
scaled_above = tt

-- a root that is not taken
root_small : (x v w : Float) → T (root_over v w) → T (not (under_zero x)) → Small w x → Small v (sqrt_of x)
root_small x v w r u h =
    let fit = fits binary32 v in
    let cross = leb (num w * (den v * den v)) (num v * num v * den w) in
    let r1 = and_r fit (positive v && (positive w && cross)) r in
    let r2 = and_r (positive v) (positive w && cross) r1 in
    sqrt_small x v (and_l fit (positive v && (positive w && cross)) r) (and_l (positive v) (positive w && cross) r1) u
    (widened x (num w) (den w) (num v * num v) (den v * den v) (den_pos w) (leb→le _ _ (and_r (positive w) cross r2)) (at_fraction w x (and_l (positive w) cross r2) h.held))

module _ (a l m p q : Float) (slight : Slight a) (ok : T (enough a l m p q)) (from to : Tip) (offset scale : Float) (h : Keeps a l m from to offset scale) where
  abbrev s : Float
  s = square_of from to

  flat : Flat a (sqrt_of s) (params_of from to)
  unfolding params_of from_points_derivs
  flat =
      rw (h.whole_range, not_short s h.some h.long)
      (flat_chord a s slight h.some h.long (square_fits (chord_of from to)) h.not_far (chord_of from to) (sqrt_of s) from.q to.q h.starts h.ends)

  abbrev c : CubicParams
  c = params_of from to

  near : T (le (c.err ⊗ scale) (dec 25 2))
  near = most (dec 25 2) (and_l (le (fitted_limit a ⊗ l ⊗ m) (dec 25 2) && plain (dec 25 2)) _ ok) (times (flat.error l h.chord) h.scaled)

  abbrev e : EulerParams
  e = from_angles c.th0 c.th1

  abbrev dist : Float
  dist = offset ⊘ c.chord_len ⊗ e.ch

  curvature : Small (curvature_limit a) e.k1
  curvature = k1_small a c.th0 c.th1 slight flat.start flat.end

  abbrev k : Float
  k = e.k0 ⊖ dec 5 1 ⊗ e.k1 ⊕ dec 5 1 ⊗ e.k1

  middle : Small (middle_limit a) k
  unfolding from_angles
  middle = plus (minus (plus flat.start flat.end) (times (decimal 5 1) curvature)) (times (decimal 5 1) curvature)

  length_least : AtLeast (whole 1) c.chord_len
  length_least = subst (λ (v : Float). AtLeast (whole 1) v) (sym flat.long) (sqrt_least (record { above = unfold round in tt; reached = h.long }) (positive-finite s h.some))

  length_most : Small l c.chord_len
  length_most = subst (λ (v : Float). Small l v) (sym flat.long) h.chord

  bend : Small (bend_limit a) (k ⊗ (k ⊗ dist ⊕ whole 1))
  bend = times middle (plus (times middle (times (over h.off length_least) (ch_small a c.th0 c.th1 slight flat.start flat.end))) (decimal 1 0))

  divisor : AtLeast (dec 99 2 ⊗ dec 25 2) (e.ch ⊗ dec 25 2)
  divisor = least_product divisor_above (ch_least a c.th0 c.th1 slight flat.start flat.end) quarter_least

  span : Small (span_limit l m) (scale ⊗ c.chord_len ⊘ (e.ch ⊗ dec 25 2))
  span = over (times h.scaled length_most) divisor

  span_not_under : T (not (under_zero (scale ⊗ c.chord_len ⊘ (e.ch ⊗ dec 25 2))))
  span_not_under = not_under_over (least_product scaled_above h.scales length_least) divisor

  abbrev first : Bool
  first = le (fitted_limit a ⊗ l ⊗ m) (dec 25 2) && plain (dec 25 2)

  abbrev third : Bool
  third = root_over p (bend_limit a)

  abbrev fourth : Bool
  fourth = root_over q (span_limit l m)

  abbrev last : Bool
  last = le (p ⊗ (factor ⊗ q)) (whole 1) && unsigned (whole 1)

  after_first : T (lt (curvature_limit a) (dec 1 3) && (third && (fourth && last)))
  after_first = and_r first (lt (curvature_limit a) (dec 1 3) && (third && (fourth && last))) ok

  after_second : T (third && (fourth && last))
  after_second = and_r (lt (curvature_limit a) (dec 1 3)) (third && (fourth && last)) after_first

  after_third : T (fourth && last)
  after_third = and_r third (fourth && last) after_second

  low : lt (abs_of e.k1) (dec 1 3) ≡ true
  low = is_true (lt (abs_of e.k1) (dec 1 3)) (abs_under (dec 1 3) (and_l (lt (curvature_limit a) (dec 1 3)) (third && (fourth && last)) after_first) curvature)

  product : Small (whole 1) (sqrt_of (abs_of (k ⊗ (k ⊗ dist ⊕ whole 1))) ⊗ (factor ⊗ sqrt_of (scale ⊗ c.chord_len ⊘ (e.ch ⊗ dec 25 2))))
  product =
      wider (whole 1) (and_r fourth last after_third)
      (times (root_small _ p (bend_limit a) (and_l third (fourth && last) after_second) (abs_not_below (k ⊗ (k ⊗ dist ⊕ whole 1))) (abs_small bend))
      (times (own factor factor_unsigned) (root_small _ q (span_limit l m) (and_l fourth last after_third) span_not_under span)))

  count : (fit_of offset scale from.p to.p c).n ≡ whole 1
  unfolding fit_of robust_of n_frac_of integrand_of multiplier_of round
  count = rw (low) (one_count _ product.held)

-- ---- the rows of the test: for slopes below a, chords of a square of at most far and scales of at most m
record Row (a far m : Float) : Type 0 where
  l : Float
  p : Float
  q : Float
  slight : Slight a
  ok : T (enough a l m p q)
  root : T (root_over l far)
  bound : T (le far (fin false 1 (pos 100)) && plain (fin false 1 (pos 100)))
  unsigned : T (unsigned far && unsigned m)

record Rows (room m : Float) : Type 0 where
  short : Row (dec 6103515625 14) (whole 65536 ⊗ room) m
  middle : Row (dec 152587890625 16) (whole 1048576 ⊗ room) m
  long : Row (dec 3814697265625 18) (whole 16777216 ⊗ room) m

slight_14 : Slight (dec 6103515625 14)
unfolding cos_drop round of_bits add sub mul lt le
slight_14 = record { low = tt; plus = tt; less = tt; finite = tt; near = tt; cosine = tt; cosines = tt }

slight_16 : Slight (dec 152587890625 16)
unfolding cos_drop round of_bits add sub mul lt le
slight_16 = record { low = tt; plus = tt; less = tt; finite = tt; near = tt; cosine = tt; cosines = tt }

slight_18 : Slight (dec 3814697265625 18)
unfolding cos_drop round of_bits add sub mul lt le
slight_18 = record { low = tt; plus = tt; less = tt; finite = tt; near = tt; cosine = tt; cosines = tt }

unit_rows : Rows (whole 1) (whole 1)
unfolding fitted_limit sin_limit fits round of_bits add sub mul div lt le
unit_rows = record {
  short = record { l = whole 256; p = dec 35 3; q = whole 33; slight = slight_14; ok = tt; root = tt; bound = tt; unsigned = tt };
  middle = record { l = whole 1024; p = dec 16 3; q = whole 65; slight = slight_16; ok = tt; root = tt; bound = tt; unsigned = tt };
  long = record { l = whole 4096; p = dec 8 3; q = whole 129; slight = slight_18; ok = tt; root = tt; bound = tt; unsigned = tt };
}

rows_8 : Rows (dec 15625 6) (whole 8)
unfolding fitted_limit sin_limit fits round of_bits add sub mul div lt le
rows_8 = record {
  short = record { l = whole 32; p = dec 35 3; q = whole 33; slight = slight_14; ok = tt; root = tt; bound = tt; unsigned = tt };
  middle = record { l = whole 128; p = dec 16 3; q = whole 65; slight = slight_16; ok = tt; root = tt; bound = tt; unsigned = tt };
  long = record { l = whole 512; p = dec 8 3; q = whole 129; slight = slight_18; ok = tt; root = tt; bound = tt; unsigned = tt };
}

rows_64 : Rows (dec 244140625 12) (whole 64)
unfolding fitted_limit sin_limit fits round of_bits add sub mul div lt le
rows_64 = record {
  short = record { l = whole 4; p = dec 35 3; q = whole 33; slight = slight_14; ok = tt; root = tt; bound = tt; unsigned = tt };
  middle = record { l = whole 16; p = dec 16 3; q = whole 65; slight = slight_16; ok = tt; root = tt; bound = tt; unsigned = tt };
  long = record { l = whole 64; p = dec 8 3; q = whole 129; slight = slight_18; ok = tt; root = tt; bound = tt; unsigned = tt };
}

far_above : {a far m : Float} → Row a far m → T (positive far)
far_above {a} {far} {m} row =
    let l = row.l in
    let cross = leb (num far * (den l * den l)) (num l * num l * den far) in
    and_l (positive far) cross (and_r (positive l) (positive far && cross) (and_r (fits binary32 l) (positive l && (positive far && cross)) row.root))

-- ---- from the test to a row
-- what a range that passes the test is
record Passes (from to : Tip) (offset scale : Float) : Type 0 where
  near : T (le ((params_of from to).err ⊗ scale) (dec 25 2))
  count : (fit_of offset scale from.p to.p (params_of from to)).n ≡ whole 1

zero_ahead : (m : ℕ) (e : ℤ) → 0 * 1 * down e < m * up e * 1 → 0 < m
zero_ahead zero e h = absurd (lt_irrefl 0 (subst (λ (z : ℕ). 0 < z) (mul-one (0 * up e) ∙ zero-mul (up e)) (lt_of_le_of_lt zero-le h)))
zero_ahead (suc m) e h = zero-lt-suc m

ahead_of : (x s : Float) → T (lt (whole 0) x) → T (le x s) → T (positive s) → T (positive x)
unfolding lt le round
ahead_of nan s h l p = absurd h
ahead_of (inf true) s h l p = absurd h
ahead_of (inf false) nan h l p = absurd p
ahead_of (inf false) (inf t) h l p = absurd p
ahead_of (inf false) (fin t n d) h l p = absurd l
ahead_of (fin true m e) s h l p = absurd h
ahead_of (fin false m e) s h l p = lt→ltb 0 m (zero_ahead m e (ltb→lt (0 * 1 * down e) (m * up e * 1) h))

no_less : (v : Float) → T (lt v nan) → ⊥
unfolding lt
no_less nan h = h
no_less (inf t) h = h
no_less (fin t m e) h = h

never_along : (s : Float) (h : Vec2) → T (is_along nan s h) → ⊥
unfolding is_along
never_along s h t =
    let slope = lt (abs_of h.y ⊘ h.x) nan in
    no_less (abs_of h.y ⊘ h.x) (and_l slope (le h.x s) (and_r (lt (whole 0) h.x) (slope && le h.x s) t))

never : (s : Float) (c q0 q1 : Vec2) → T (are_along nan s c q0 q1) → ⊥
unfolding are_along
never s c q0 q1 t = never_along s (start_over q0 c) (and_l (is_along nan s (start_over q0 c)) (is_along nan s (end_over q1 c)) t)

steep_none : (s : Float) → steep_of nan s ≡ nan
unfolding steep_of mul round le
steep_none nan = refl
steep_none (inf t) = refl
steep_none (fin t m e) = refl

along : (a s : Float) (h : Vec2) → T (positive s) → T (is_along a s h) → Along a s h
unfolding is_along
along a s h p t =
    let front = lt (whole 0) h.x in
    let slope = lt (abs_of h.y ⊘ h.x) a in
    let r = and_r front (slope && le h.x s) t in
    let i = and_r slope (le h.x s) r in
    record { ahead = ahead_of h.x s (and_l front (slope && le h.x s) t) i p; slope = and_l slope (le h.x s) r; inside = i }

module _ (from to : Tip) (offset scale : Float) (range : to.t ⊖ from.t ≡ whole 1) (off : T (le (abs_of offset) (whole 256))) (scales : T (le (dec 95367431640625 20) scale)) where
  module _ (long : T (le (whole 1) (square_of from to))) where
    one_least : AtLeast (whole 1) (square_of from to)
    unfolding round
    one_least = record { above = tt; reached = long }

    scales_least : AtLeast (dec 95367431640625 20) scale
    unfolding round
    scales_least = record { above = tt; reached = scales }

    passes : (a far m : Float) → Row a far m → T (le (square_of from to) far) → T (le scale m) → T (is_along a (square_of from to) (start_over from.q (chord_of from to)))
        → T (is_along a (square_of from to) (end_over to.q (chord_of from to))) → Passes from to offset scale
    passes a far m row short scaled starts ends = record {
      near = near a row.l m row.p row.q row.slight row.ok from to offset scale keeps;
      count = count a row.l m row.p row.q row.slight row.ok from to offset scale keeps;
    }
      where
        some : T (positive (square_of from to))
        some = between (whole 1) (square_of from to) far one_least.above (far_above row) long short

        square : Small far (square_of from to)
        square = compared (square_of from to) far (not_under one_least) (and_l (unsigned far) (unsigned m) row.unsigned) short

        keeps : Keeps a row.l m from to offset scale
        keeps = record {
          whole_range = range;
          some = some;
          long = long;
          not_far = most (fin false 1 (pos 100)) row.bound square;
          chord = root_small (square_of from to) row.l far row.root (not_under one_least) square;
          starts = along a (square_of from to) (start_over from.q (chord_of from to)) some starts;
          ends = along a (square_of from to) (end_over to.q (chord_of from to)) some ends;
          scaled = compared scale m (not_under scales_least) (and_r (unsigned far) (unsigned m) row.unsigned) scaled;
          scales = scales_least;
          off = small_of_abs offset (whole 256) (unsigned_round binary32 256 1) off;
        }

    abbrev at_most : Float → Bool
    at_most far = le (square_of from to) far

    abbrev Along_by : Float → Type 0
    Along_by steep = T (are_along steep (square_of from to) (chord_of from to) from.q to.q)

    by_row : (a far m : Float) → Row a far m → T (le (square_of from to) far) → T (le scale m) → Along_by a → Passes from to offset scale
    unfolding are_along
    by_row a far m row short scaled t =
        let starts = is_along a (square_of from to) (start_over from.q (chord_of from to)) in
        let ends = is_along a (square_of from to) (end_over to.q (chord_of from to)) in
        passes a far m row short scaled (and_l starts ends t) (and_r starts ends t)

    -- the row that the square tells, of those that the scale tells
    by_square : (room m : Float) → Rows room m → T (le scale m) → Along_by (steep_of room (square_of from to)) → Passes from to offset scale
    unfolding steep_of
    by_square room m rows scaled =
        go (at_most (whole 65536 ⊗ room)) (at_most (whole 1048576 ⊗ room)) (at_most (whole 16777216 ⊗ room)) (λ t. t) (λ t. t) (λ t. t)
      where
        go : (x y z : Bool) → (T x → T (at_most (whole 65536 ⊗ room))) → (T y → T (at_most (whole 1048576 ⊗ room))) → (T z → T (at_most (whole 16777216 ⊗ room)))
            → Along_by (cond x (dec 6103515625 14) (cond y (dec 152587890625 16) (cond z (dec 3814697265625 18) nan))) → Passes from to offset scale
        go true y z f g h = by_row (dec 6103515625 14) (whole 65536 ⊗ room) m rows.short (f tt) scaled
        go false true z f g h = by_row (dec 152587890625 16) (whole 1048576 ⊗ room) m rows.middle (g tt) scaled
        go false false true f g h = by_row (dec 3814697265625 18) (whole 16777216 ⊗ room) m rows.long (h tt) scaled
        go false false false f g h = λ t. absurd (never (square_of from to) (chord_of from to) from.q to.q t)

    by_scale : Along_by (steep_of (share_of scale) (square_of from to)) → Passes from to offset scale
    unfolding share_of
    by_scale = go (le scale (whole 1)) (le scale (whole 8)) (le scale (whole 64)) (λ t. t) (λ t. t) (λ t. t)
      where
        go : (x y z : Bool) → (T x → T (le scale (whole 1))) → (T y → T (le scale (whole 8))) → (T z → T (le scale (whole 64)))
            → Along_by (steep_of (cond x (whole 1) (cond y (dec 15625 6) (cond z (dec 244140625 12) nan))) (square_of from to)) → Passes from to offset scale
        go true y z f g h = by_square (whole 1) (whole 1) unit_rows (f tt)
        go false true z f g h = by_square (dec 15625 6) (whole 8) rows_8 (g tt)
        go false false true f g h = by_square (dec 244140625 12) (whole 64) rows_64 (h tt)
        go false false false f g h = λ t. absurd (never (square_of from to) (chord_of from to) from.q to.q (subst Along_by (steep_none (square_of from to)) t))

module _ (from to : Tip) (offset scale : Float) (range : to.t ⊖ from.t ≡ whole 1) where
  by_room : (x : Bool) → (T x → T (le (dec 95367431640625 20) scale)) → T (le (whole 1) (square_of from to)) → T (le (abs_of offset) (whole 256))
      → T (are_along (steep_of (cond x (share_of scale) nan) (square_of from to)) (square_of from to) (chord_of from to) from.q to.q) → Passes from to offset scale
  by_room true f long off t = by_scale from to offset scale range off (f tt) long t
  by_room false f long off t =
      absurd (never (square_of from to) (chord_of from to) from.q to.q
      (subst (λ (v : Float). T (are_along v (square_of from to) (chord_of from to) from.q to.q)) (steep_none (square_of from to)) t))

  line_passes : T (is_line from to offset scale) → Passes from to offset scale
  unfolding is_line room_of
  line_passes t =
      let a = le (whole 1) (square_of from to) in
      let b = le (abs_of offset) (whole 256) in
      let c = are_along (steep_of (room_of scale) (square_of from to)) (square_of from to) (chord_of from to) from.q to.q in
      let r = and_r a (b && c) t in
      by_room (le (dec 95367431640625 20) scale) (λ z. z) (and_l a (b && c) t) (and_l b c r) (and_r b c r)

-- ---- a side of one line
starts_at_lem : (ps : List Vec2) → (first_tip ps).t ≡ whole 0
unfolding first_tip
starts_at_lem ps = refl

either_end : (b : Bool) (x y : Tip) → x.t ≡ whole 1 → y.t ≡ whole 1 → (cond b x y).t ≡ whole 1
either_end true x y e f = e
either_end false x y e f = f

ends_at : (ps : List Vec2) → (tip_at ps (whole 1)).t ≡ whole 1
unfolding tip_at round lt
ends_at ps = either_end (is_short (cubic_at ps (whole 1)).q) _ _ refl refl

module _ (side : Side) where
  abbrev front : Front
  front = front_of (first_tip side.points) side.start

  abbrev end : Tip
  end = tip_at side.points (whole 1)

  last_tip : tip_of side 16 0 ≡ end
  unfolding tip_of round
  last_tip = refl

  whole_range : end.t ⊖ (first_tip side.points).t ≡ whole 1
  unfolding sub round
  whole_range = rw (ends_at side.points, starts_at_lem side.points)

  module _ (passed : Passes (first_tip side.points) end side.offset side.scale) where
    is_near_lem : is_near side front end ≡ true
    unfolding is_near
    is_near_lem = is_true _ passed.near

    one_line : (accepted side front end).ranges ≡ (line_of side side.start side.end ∷ []) ∷ []
    unfolding accepted range_of range_end lines_of round is_nan to_unsigned eq
    one_line = rw (passed.count, ends_at side.points)

    walked : (walk side 16 0 front).ranges ≡ (line_of side side.start side.end ∷ []) ∷ []
    walked =
        ap (λ (w : Trail). w.ranges) (walk_near side 15 0 front (ap (is_near side front) last_tip ∙ is_near_lem) ∙ ap (accepted side front) last_tip) ∙ one_line

pub one_line_side : (side : Side) → is_point side.points ≡ false → is_line (first_tip side.points) (tip_at side.points (whole 1)) side.offset side.scale ≡ true
    → side_events side ≡ line_of side side.start side.end ∷ []
unfolding side_events flatten
one_line_side side drawn t =
    let passed = line_passes (first_tip side.points) (tip_at side.points (whole 1)) side.offset side.scale (whole_range side) (subst T (sym t) tt) in
    rw (drawn, walked side passed)
