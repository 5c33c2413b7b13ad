-- A range that is nearly straight: how large the angles, the error and the spiral's numbers are at most, from the slopes of the tangents against the chord.
-- Assumes nothing.
use Rattle.std.specs.Prelude.{◌≡◌, refl, Bool, true, false, cond, ℕ, pos, T, Float}
use Rattle.std.proofs.Common.{sym}
use Rattle.std.proofs.Math.Path.{subst}
use Rattle.std.specs.Float.{fin, binary32}
use Rattle.std.specs.Float.Ieee.{fits, round, of_bits, neg, add, sub, mul, div, lt, le}
use Rattle.std.specs.Float.Ieee.Fits.{and_i}
use Rattle.std.specs.Float.Ieee.Positive.{positive}
use Rattle.std.specs.Float.Ieee.Scale.{finite}
use Rattle.laws.specs.Binary32.{◌⊕◌, ◌⊖◌, ◌⊗◌, ◌⊘◌, dec, whole, f32}
use Rattle.laws.specs.NotFinite.{unsigned}
use Rattle.laws.specs.Size.{of_unsigned}
use Rattle.laws.specs.Limits.{Small, AtLeast, times, plus, minus, over, own, decimal, turned, wider, least_sum, least_difference, least_product, lowered, one_more_lem, not_negative, over_itself, compared, below_limit, at_fraction, positive_unsigned, not_both}
use Rattle.maths.specs.Numbers.{abs_of, max_of, abs_small, max_least, slope_under}
use Rattle.maths.specs.Roots.{hypot_of, hypot_small}
use Rattle.maths.specs.Trig.{cos_of, one, sin_limit, cos_drop, sin_small, cos_least, cos_small, atan2_small}
use Rattle.spiral.specs.Euler.{tangent_thresh, fitted_error, error_ratio, long_chord, from_angles}
use Rattle.spiral.specs.Util.{new_of, length_of, angle_of}
use Rattle.spiral.specs.declared.util.Vec2.{Vec2}
use Rattle.spiral.specs.declared.euler.CubicParams.{CubicParams}

-- 2 ^ -14
abbrev pub slight : Float
slight = f32 0x38800000

-- ---- the error over the chord's length: fitted_error of the limits
unfoldable pub fitted_limit : Float → Float
fitted_limit a =
    let e = (whole 2 ⊘ whole 3) ⊘ whole 1 in
    let s = sin_limit a in
    let s01 = one ⊗ s ⊕ one ⊗ s in
    let amin = dec 15 2 ⊗ (whole 2 ⊗ e ⊗ s ⊕ whole 2 ⊗ e ⊗ s ⊕ e ⊗ e ⊗ s01) in
    let far = dec 15 2 ⊗ (whole 2 ⊗ whole 4 ⊗ s ⊕ whole 2 ⊗ whole 4 ⊗ s ⊕ whole 4 ⊗ whole 4 ⊗ s01) in
    let both = a ⊕ a in
    let square = both ⊗ both in
    let ctr = dec 4625 9 ⊗ (both ⊗ (square ⊗ square)) ⊕ dec 75 4 ⊗ both ⊗ square in
    ctr ⊕ dec 155 2 ⊗ (far ⊕ amin) ⊕ dec 5 3 ⊗ both ⊗ whole 16 ⊕ dec 7 2 ⊗ both ⊗ whole 16

-- limits of angles for which all this is computed
pub record Slight (a : Float) : Type 0 where
  pub low : T (le a slight)
  pub plus : T (unsigned a)
  pub less : T (lt a (whole 1))
  pub finite : T (finite a)
  pub near : T (lt a (f32 0x3f480000))
  pub cosine : T (positive (one ⊖ cos_drop a))
  pub cosines : T (positive ((one ⊖ cos_drop a) ⊗ (one ⊖ cos_drop a)))

module _ (a th0 th1 d0 d1 : Float) (slight : Slight a) (h0 : Small a th0) (h1 : Small a th1) (l0 : Small (whole 4) d0) (l1 : Small (whole 4) d1) where
  cos_above : (th : Float) → Small a th → AtLeast (one ⊖ cos_drop a) (cos_of th)
  cos_above th h = cos_least slight.near slight.cosine h

  -- e0 and e1: the cosine is above zero
  arm : (th : Float) → Small a th → Small ((whole 2 ⊘ whole 3) ⊘ whole 1) ((whole 2 ⊘ whole 3) ⊘ max_of (whole 1 ⊕ cos_of th) (dec 1 9))
  unfolding round div
  arm th h = over (own (whole 2 ⊘ whole 3) tt) (max_least (dec 1 9) (one_more_lem (cos_above th h)))

  -- how far they are from d0 and d1
  gap : (d e : Float) → Small (whole 4) d → Small ((whole 2 ⊘ whole 3) ⊘ whole 1) e → Small (whole 8) (d ⊖ e)
  unfolding round div add le
  gap d e h l = wider (whole 8) tt (minus h l)

  apart : (x y : Float) → Small (whole 8) x → Small (whole 8) y → Small (whole 16) (hypot_of x y)
  unfolding round fits le
  apart x y h l = record { held = hypot_small (whole 8) x y tt tt tt h.held l.held }

  area : (e0 e1 s0 s1 s01 e s t : Float) → Small e e0 → Small e e1 → Small s s0 → Small s s1 → Small t s01
      → Small (dec 15 2 ⊗ (whole 2 ⊗ e ⊗ s ⊕ whole 2 ⊗ e ⊗ s ⊕ e ⊗ e ⊗ t)) (dec 15 2 ⊗ (whole 2 ⊗ e0 ⊗ s0 ⊕ whole 2 ⊗ e1 ⊗ s1 ⊖ e0 ⊗ e1 ⊗ s01))
  area e0 e1 s0 s1 s01 e s t g0 g1 k0 k1 k =
      times (decimal 15 2) (minus (plus (times (times (decimal 2 0) g0) k0) (times (times (decimal 2 0) g1) k1)) (times (times g0 g1) k))

  fitted_small : Small (fitted_limit a) (fitted_error th0 th1 d0 d1 (cos_of th0) (cos_of th1))
  unfolding fitted_error fitted_limit
  fitted_small =
      let g0 = arm th0 h0 in
      let g1 = arm th1 h1 in
      let s0 = sin_small slight.near h0 in
      let s1 = sin_small slight.near h1 in
      let s01 = plus (times (cos_small h0 slight.finite) s1) (times (cos_small h1 slight.finite) s0) in
      let aerr = abs_small (minus (area _ _ _ _ _ _ _ _ l0 l1 s0 s1 s01) (area _ _ _ _ _ _ _ _ g0 g1 s0 s1 s01)) in
      let symm = abs_small (plus h0 h1) in
      let asymm = abs_small (minus h0 h1) in
      let dist = apart _ _ (gap _ _ l0 g0) (gap _ _ l1 g1) in
      let symm2 = times symm symm in
      let ctr = plus (times (decimal 4625 9) (times symm (times symm2 symm2))) (times (times (decimal 75 4) asymm) symm2) in
      plus (plus (plus ctr (times (decimal 155 2) aerr)) (times (times (decimal 5 3) symm) dist)) (times (times (decimal 7 2) asymm) dist)

  pub ratio_small : Small (fitted_limit a) (error_ratio th0 th1 d0 d1)
  unfolding error_ratio
  ratio_small =
      subst (λ (b : Bool). Small (fitted_limit a) (cond b (whole 2) (fitted_error th0 th1 d0 d1 (cos_of th0) (cos_of th1))))
      (sym (not_negative (least_product slight.cosines (cos_above th0 h0) (cos_above th1 h1)))) fitted_small

-- ---- the spiral: its curvature, and its chord, which is about 1
quotient : (m n : ℕ) → T (unsigned (whole m ⊘ whole n)) → Small (whole m ⊘ whole n) (whole m ⊘ whole n)
quotient m n u = own (whole m ⊘ whole n) u

one_itself : AtLeast (whole 1) (whole 1)
unfolding round le
one_itself = record { above = tt; reached = tt }

less_part : (n : ℕ) → AtLeast (whole n) (whole n) → Small (whole 1 ⊘ whole n) (neg (whole 1) ⊘ whole n)
less_part n h = over (turned (decimal 1 0)) h

module _ (a th0 th1 : Float) (slight : Slight a) (h0 : Small a th0) (h1 : Small a th1) where
  abbrev dth : Float
  dth = th1 ⊖ th0

  abbrev k0 : Float
  k0 = th0 ⊕ th1

  low : (x : Float) → Small a x → Small (f32 0x38800000) x
  low x h = wider (f32 0x38800000) (and_i (le a (f32 0x38800000)) (unsigned (f32 0x38800000)) slight.low (unfold of_bits in tt)) h

  -- at most 2 ^ -13, and so the square 2 ^ -26
  square : (x : Float) → Small (f32 0x38800000 ⊕ f32 0x38800000) x → Small (f32 0x32800000) (x ⊗ x)
  unfolding add mul of_bits le
  square x h = wider (f32 0x32800000) tt (times h h)

  d2 : Small (f32 0x32800000) (dth ⊗ dth)
  d2 = square dth (minus (low th1 h1) (low th0 h0))

  k2 : Small (f32 0x32800000) (k0 ⊗ k0)
  k2 = square k0 (plus (low th0 h0) (low th1 h1))

  pub k1_small : Small ((a ⊕ a) ⊗ dec 61 1) (from_angles th0 th1).k1
  unfolding from_angles round add mul div le of_bits
  k1_small =
      let d4 = times d2 d2 in
      let a0 = minus (minus (decimal 6 0) (times d2 (quotient 1 70 tt))) (times d4 (quotient 1 10780 tt)) in
      let a1 = plus a0 (times (times d4 d2) (decimal 2769178184818219 22)) in
      let b = plus (plus (turned (decimal 1 1)) (times d2 (quotient 1 4200 tt))) (times d4 (decimal 16959677820260655 21)) in
      let c = minus (plus (less_part 1400 (record { above = tt; reached = tt })) (times d2 (decimal 684915970574303 19))) (times k2 (decimal 7936475029053326 21)) in
      times (minus h1 h0) (wider (dec 61 1) tt (plus a1 (times (plus b (times c k2)) k2)))

  -- what the spiral's chord is changed by at last
  last : Small (dec 1 3)
      ((neg (whole 1) ⊘ whole 24 ⊕ dth ⊗ dth ⊗ dec 24702380951963226 19 ⊖ dth ⊗ dth ⊗ (dth ⊗ dth) ⊗ dec 37297408997537985 21
      ⊕ (whole 1 ⊘ whole 1920 ⊖ dth ⊗ dth ⊗ dec 487350869747975 19 ⊖ k0 ⊗ k0 ⊗ dec 31001936068463107 22) ⊗ (k0 ⊗ k0)) ⊗ (k0 ⊗ k0))
  unfolding round add mul div le of_bits
  last =
      let b = minus (plus (less_part 24 (record { above = tt; reached = tt })) (times d2 (decimal 24702380951963226 19))) (times (times d2 d2) (decimal 37297408997537985 21)) in
      let c = minus (minus (quotient 1 1920 tt) (times d2 (decimal 487350869747975 19))) (times k2 (decimal 31001936068463107 22)) in
      wider (dec 1 3) tt (times (plus b (times c k2)) k2)

  pub ch_small : Small (dec 101 2) (from_angles th0 th1).ch
  unfolding from_angles round add mul div le of_bits
  ch_small =
      let d4 = times d2 d2 in
      let c0 = plus (minus (decimal 1 0) (times d2 (quotient 1 40 tt))) (times d4 (decimal 34226190482569864 20)) in
      let c1 = minus c0 (times (times d4 d2) (decimal 19349474568904524 22)) in
      wider (dec 101 2) tt (plus c1 last)

  pub ch_least : AtLeast (dec 99 2) (from_angles th0 th1).ch
  unfolding from_angles round add sub mul div le of_bits
  ch_least =
      let d4 = times d2 d2 in
      let c0 = least_difference tt one_itself (times d2 (quotient 1 40 tt)) in
      let c1 = least_sum tt c0 (times d4 (decimal 34226190482569864 20)) in
      let c2 = least_difference tt c1 (times (times d4 d2) (decimal 19349474568904524 22)) in
      lowered (dec 99 2) tt tt (least_sum tt c2 last)

-- ---- what is read off a cubic whose tangents run along its chord
abbrev pub start_over : Vec2 → Vec2 → Vec2
start_over q c = new_of (q.x ⊗ c.x ⊕ q.y ⊗ c.y) (q.y ⊗ c.x ⊖ q.x ⊗ c.y)

abbrev pub end_over : Vec2 → Vec2 → Vec2
end_over q c = new_of (q.x ⊗ c.x ⊕ q.y ⊗ c.y) (q.x ⊗ c.y ⊖ q.y ⊗ c.x)

-- h points along the chord but for a slope below a, and is not longer than it: all over the chord, whose square is s
pub record Along (a s : Float) (h : Vec2) : Type 0 where
  pub ahead : T (positive h.x)
  pub slope : T (lt (abs_of h.y ⊘ h.x) a)
  pub inside : T (le h.x s)

pub record Flat (a length : Float) (c : CubicParams) : Type 0 where
  pub start : Small a c.th0
  pub end : Small a c.th1
  pub long : c.chord_len ≡ length
  pub error : (l : Float) → Small l length → Small (fitted_limit a ⊗ l) c.err

-- a chord of length 1 or more is none near zero
absurd_test : (b : Bool) → (T b → ⊥) → b ≡ false
absurd_test true h = absurd (h tt)
absurd_test false h = refl

pub not_short : (s : Float) → T (positive s) → T (le (whole 1) s) → lt s (tangent_thresh ⊗ tangent_thresh) ≡ false
unfolding round mul lt
not_short s p l =
    absurd_test (lt s (tangent_thresh ⊗ tangent_thresh))
    (λ h. not_both s (positive_unsigned s p) l (below_limit s (tangent_thresh ⊗ tangent_thresh) (whole 1) (of_unsigned s (positive_unsigned s p)) tt h tt))

module _ (a s : Float) (slight : Slight a) (p : T (positive s)) (l : T (le (whole 1) s)) (f : T (fits binary32 s)) (m : T (le s (fin false 1 (pos 100)))) where
  within : (h : Vec2) → Along a s h → Small s h.x
  within h g = compared h.x s (of_unsigned h.x (positive_unsigned h.x g.ahead)) (positive_unsigned s p) g.inside

  across : (h : Vec2) → Along a s h → Small s h.y
  across h g = wider s (and_i (le h.x s) (unsigned s) g.inside (positive_unsigned s p)) (slope_under h.y h.x a g.ahead g.slope slight.plus slight.less)

  reach : (h : Vec2) → Along a s h → Small (whole 4) (length_of h ⊗ (whole 1 ⊘ s))
  unfolding length_of
  reach h g = over_itself (hypot_of h.x h.y) s p l (hypot_small s h.x h.y f p m (at_fraction s h.x p (within h g).held) (at_fraction s h.y p (across h g).held))

  heading : (h : Vec2) → Along a s h → Small a (angle_of h)
  unfolding angle_of
  heading h g = atan2_small h.y h.x a g.ahead g.slope slight.low

  pub flat_chord : (c : Vec2) (length : Float) (q0 q1 : Vec2) → Along a s (start_over q0 c) → Along a s (end_over q1 c) → Flat a length (long_chord c s length q0 q1 (whole 1))
  unfolding long_chord
  flat_chord c length q0 q1 g k =
      let start = heading (start_over q0 c) g in
      let end = heading (end_over q1 c) k in
      record {
        start = start;
        end = end;
        long = refl;
        error = λ r h. times (ratio_small a _ _ _ _ slight start end (reach (start_over q0 c) g) (reach (end_over q1 c) k)) h;
      }
