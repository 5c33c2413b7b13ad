-- The error of a fit is only held to the tolerance: what may stand for it there, and why. Assumes nothing.
use Rattle.std.specs.Prelude.{◌≡◌, refl, Bool, false, ◌&&◌, ℕ, ◌^◌, T, Float}
use Rattle.std.proofs.Math.Path.{sym}
use Rattle.std.proofs.Common.{ap, ◌∙◌, subst, le_refl, zero-lt-suc}
use Rattle.std.proofs.Math.Bool.{true}
use Rattle.std.specs.Float.{nan, inf, fin, binary32}
use Rattle.std.specs.Float.Ieee.{round, fits, lt, le}
use Rattle.std.specs.Float.Ieee.Bits.{is_true}
use Rattle.std.specs.Float.Ieee.Fits.{and_l, and_r, and_i}
use Rattle.laws.specs.Binary32.{◌⊕◌, ◌⊗◌, dec, whole}
use Rattle.laws.specs.NotFinite.{unsigned, unsigned_round, unsigned_mul}
use Rattle.laws.specs.Size.{widened}
use Rattle.laws.specs.Limits.{Small, times, plus, own, decimal, most}
use Rattle.laws.proofs.Limits.{more}
use Rattle.maths.specs.Numbers.{abs_of, small_of_abs}
use Rattle.maths.specs.Roots.{hypot_of, hypot_small}
use Rattle.maths.specs.Trig.{lt_not_le}
use Rattle.spiral.specs.declared.euler.CubicParams.{CubicParams}

abbrev pub tolerance : Float
tolerance = dec 25 2

-- r stands for the error over a chord's length: it is within the tolerance where that is, and where no scale above zero is given it is that
pub record Stands (length scale exact r : Float) : Type 0 where
  pub near : le (r ⊗ length ⊗ scale) tolerance ≡ le (exact ⊗ length ⊗ scale) tolerance
  pub bare : lt (whole 0) scale ≡ false → r ≡ exact

-- the same of all that is read off a cubic: nothing but the error may differ
pub record Judged (scale : Float) (exact got : CubicParams) : Type 0 where
  pub start : got.th0 ≡ exact.th0
  pub end : got.th1 ≡ exact.th1
  pub long : got.chord_len ≡ exact.chord_len
  pub near : le (got.err ⊗ scale) tolerance ≡ le (exact.err ⊗ scale) tolerance
  pub bare : lt (whole 0) scale ≡ false → got.err ≡ exact.err

pub stands_itself : (length scale x : Float) → Stands length scale x x
stands_itself length scale x = record { near = refl; bare = λ (e : lt (whole 0) scale ≡ false). refl }

pub judged_itself : (scale : Float) (c : CubicParams) → Judged scale c c
judged_itself scale c = record { start = refl; end = refl; long = refl; near = refl; bare = λ (e : lt (whole 0) scale ≡ false). refl }

-- at no scale it is all of it
pub unscaled : (scale : Float) (exact got : CubicParams) → lt (whole 0) scale ≡ false → Judged scale exact got → got ≡ exact
unscaled scale exact got e h = same h.start h.end h.long (h.bare e)
  where
    built : Float → Float → Float → Float → CubicParams
    built a b c d = record { th0 = a; th1 = b; chord_len = c; err = d }

    same : {a b c d a' b' c' d' : Float} → a ≡ a' → b ≡ b' → c ≡ c' → d ≡ d' → built a b c d ≡ built a' b' c' d'
    same p q r s = cc

pub judged_by : (th0 th1 length scale exact r : Float) → Stands length scale exact r
    → Judged scale (record { th0 = th0; th1 = th1; chord_len = length; err = exact ⊗ length }) (record { th0 = th0; th1 = th1; chord_len = length; err = r ⊗ length })
judged_by th0 th1 length scale exact r h =
    record { start = refl; end = refl; long = refl; near = h.near; bare = λ (e : lt (whole 0) scale ≡ false). ap (λ (x : Float). x ⊗ length) (h.bare e) }

-- the end of `fitted_error`: what does not depend on the distance of the tangents' lengths from the spiral's, and what does
unfoldable pub error_sum : Float → Float → Float → Float → Float
error_sum base symm asymm dist = base ⊕ dec 5 3 ⊗ symm ⊗ dist ⊕ dec 7 2 ⊗ asymm ⊗ dist

-- the distance is at most 1/4
unfoldable pub is_close : Float → Float → Bool
is_close x y = le (abs_of x) (dec 125 3) && le (abs_of y) (dec 125 3)

pub close_by : (x y : Float) → T (is_close x y) → Small (dec 25 2) (hypot_of x y)
unfolding is_close round fits le
close_by x y h =
    let a = small_of_abs x (dec 125 3) tt (and_l (le (abs_of x) (dec 125 3)) (le (abs_of y) (dec 125 3)) h) in
    let b = small_of_abs y (dec 125 3) tt (and_r (le (abs_of x) (dec 125 3)) (le (abs_of y) (dec 125 3)) h) in
    record { held = widened (hypot_of x y) 2 8 1 4 (zero-lt-suc 7) (le_refl 8) (hypot_small (dec 125 3) x y tt tt tt a.held b.held) }

-- ---- what is held to a number is above the tolerance only where that is
no_more : (a x : Float) → T (lt tolerance x) → Small a x → le a tolerance ≡ false
unfolding round
no_more a x h l = go (le a tolerance) (λ (g : T (le a tolerance)). subst T (lt_not_le tolerance x h) (most tolerance (and_i (le a tolerance) true g tt) l))
  where
    go : (b : Bool) → (T b → ⊥) → b ≡ false
    go true f = absurd (f tt)
    go false f = refl

above_unsigned : (x : Float) → T (lt (whole 0) x) → T (unsigned x)
unfolding round lt
above_unsigned nan h = tt
above_unsigned (inf true) h = absurd h
above_unsigned (inf false) h = tt
above_unsigned (fin true m e) h = absurd h
above_unsigned (fin false m e) h = tt

no_scale : (x : Float) → T (lt (whole 0) x) → lt (whole 0) x ≡ false → ⊥
no_scale x h e = subst T e h

-- ---- what `fitted_error` ends in: base is its own limit, and grows with the distance
module _ (base symm asymm dist length scale : Float) (own-base : Small base base) (plus-symm : T (unsigned symm)) (plus-asymm : T (unsigned asymm))
    (l : T (lt (whole 0) length)) (s : T (lt (whole 0) scale)) where
  shown : {a x : Float} → Small a x → Small (a ⊗ length ⊗ scale) (x ⊗ length ⊗ scale)
  shown h = times (times h (own length (above_unsigned length l))) (own scale (above_unsigned scale s))

  halo : (n k : ℕ) (v : Float) → T (unsigned v) → T (unsigned dist) → T (unsigned (dec n k ⊗ v ⊗ dist))
  halo n k v u d = unsigned_mul binary32 (dec n k ⊗ v) dist (unsigned_mul binary32 (dec n k) v (unsigned_round binary32 n (10 ^ k)) u) d

  -- too much without it
  pub too_far_lem : T (fits binary32 base) → T (unsigned dist) → T (lt tolerance (base ⊗ length ⊗ scale)) → Stands length scale (error_sum base symm asymm dist) base
  unfolding error_sum
  too_far_lem f d h =
      let least = more (dec 7 2 ⊗ asymm ⊗ dist) f (halo 7 2 asymm plus-asymm d) (more (dec 5 3 ⊗ symm ⊗ dist) f (halo 5 3 symm plus-symm d) own-base) in
      record {
        near = no_more (base ⊗ length ⊗ scale) (base ⊗ length ⊗ scale) h (shown own-base) ∙ sym (no_more _ (base ⊗ length ⊗ scale) h (shown least));
        bare = λ (e : lt (whole 0) scale ≡ false). absurd (no_scale scale s e);
      }

  -- little enough with more of it
  pub near_enough : (far : Float) → Small far dist → T (le (error_sum base symm asymm far ⊗ length ⊗ scale) tolerance) → Stands length scale (error_sum base symm asymm dist) (error_sum base symm asymm far)
  unfolding error_sum round
  near_enough far h g =
      let m = le (error_sum base symm asymm far ⊗ length ⊗ scale) tolerance in
      let all = plus (plus own-base (times (times (decimal 5 3) (own symm plus-symm)) h)) (times (times (decimal 7 2) (own asymm plus-asymm)) h) in
      record {
        near = is_true m g ∙ sym (is_true (le (error_sum base symm asymm dist ⊗ length ⊗ scale) tolerance) (most tolerance (and_i m true g tt) (shown all)));
        bare = λ (e : lt (whole 0) scale ≡ false). absurd (no_scale scale s e);
      }

-- what does not depend on the distance
pub base_own : (symm asymm aerr : Float) → T (unsigned symm) → T (unsigned asymm) → T (unsigned aerr)
    → let b = dec 4625 9 ⊗ (symm ⊗ (symm ⊗ symm ⊗ (symm ⊗ symm))) ⊕ dec 75 4 ⊗ asymm ⊗ (symm ⊗ symm) ⊕ dec 155 2 ⊗ aerr in Small b b
base_own symm asymm aerr s a e =
    let h = own symm s in
    let k = times h h in
    plus (plus (times (decimal 4625 9) (times h (times k k))) (times (times (decimal 75 4) (own asymm a)) k)) (times (decimal 155 2) (own aerr e))
