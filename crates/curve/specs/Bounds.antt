-- How much a curve draws: at most 131,071 ranges are looked at and 65,536 accepted, each of 1 to 100 lines, so there are at most 6,553,600. Assumes nothing.
use Prim.Native.Nat.{ℕ, zero, suc, ◌+◌, ◌-◌, ◌*◌, ◌/◌, ◌^◌, ◌≤◌, ◌<◌, min}
use Rattle.std.specs.Prelude.{◌≡◌, Bool, not, cond, T, Float}
use Rattle.std.proofs.Math.Path.{refl}
use Rattle.std.proofs.Common.{ap, ◌∙◌, subst, inl, inr, le_trans, le-div_iff_mul-le, div-lt_iff_lt-mul, arith, lit≤}
use Rattle.std.proofs.Math.Bool.{true, false}
use mathlib.Core.List.{List, [], ◌∷◌, ◌++◌, flatten}
use Rattle.std.proofs.Math.Nat.{le-min, min-le_left}
use Rattle.std.proofs.Math.ListN.{length, length-append}
use Rattle.std.proofs.Math.Pow.{pow_pos}
use Rattle.std.specs.Float.{nan, inf, fin}
use Rattle.std.specs.Float.Ieee.{round, is_nan, le, up, down, to_unsigned}
use Rattle.std.specs.Float.Ieee.Fits.{down_pos}
use Rattle.std.specs.Float.Ieee.Positive.{positive, num, den, between, own_value, values_of_le}
use Rattle.laws.specs.Binary32.{whole}
use Rattle.laws.specs.Same.{either}
use Rattle.laws.specs.Nan.{nan_is}
use Rattle.maths.specs.Numbers.{clamp_of, clamp_nan, clamp_within}
use Rattle.spiral.specs.declared.util.Vec2.{Vec2}
use Rattle.drawing.specs.Sheet.{Event, no_count}
use Rattle.curve.specs.Fit.{fit_of, place_of}
use Rattle.curve.specs.Curve.{lines_of, range_of, Front, Trail, onward, tip_of, is_near, accepted, walk, is_point, side_events, euler_events}
use Rattle.curve.specs.Walks.{walk_near, walk_far, walks}
use Rattle.curve.specs.declared.fit.Fit.{Fit}
use Rattle.curve.specs.declared.Side.{Side}

-- ---- a number from 1 to 100, cut to a whole one
quotient : (a b : ℕ) → 0 < b → b ≤ a → a ≤ 100 * b → (1 ≤ min (a / b) 4294967295) × (min (a / b) 4294967295 ≤ 100)
quotient a b p h k =
    let low : 1 ≤ a / b = (le-div_iff_mul-le p).1 (omega arith) in
    let high : a / b < 101 = (div-lt_iff_lt-mul p).1 (omega arith) in
    (le-min low (lit≤ tt), le_trans (min-le_left (a / b) 4294967295) (omega arith))

cut : (x : Float) → T (positive x) → den x ≤ num x → num x ≤ 100 * den x → (1 ≤ to_unsigned 32 x) × (to_unsigned 32 x ≤ 100)
unfolding to_unsigned
cut nan p h k = absurd p
cut (inf s) p h k = absurd p
cut (fin true m e) p h k = absurd p
cut (fin false m e) p h k = quotient (m * up e) (down e) (down_pos e) h k

in_range : (x : Float) → T (le (whole 1) x) → T (le x (whole 100)) → (1 ≤ to_unsigned 32 x) × (to_unsigned 32 x ≤ 100)
unfolding round
in_range x h k =
    let p = between (whole 1) x (whole 100) tt tt h k in
    let v = own_value x p in
    cut x p (omega (arith, values_of_le (whole 1) x 1 1 (num x) (den x) tt p (refl, refl) v h)) (omega (arith, values_of_le x (whole 100) (num x) (den x) 100 1 p tt v (refl, refl) k))

one_hundred : T (le (whole 1) (whole 100))
unfolding round le
one_hundred = tt

number : (x : Float) → T (not (is_nan (clamp_of x (whole 1) (whole 100)))) → T (not (is_nan x))
unfolding is_nan
number x h =
    elim (either (is_nan x)) [
      | inl t ↦ absurd (subst (λ (y : Float). T (not (is_nan y))) (ap (λ (y : Float). clamp_of y (whole 1) (whole 100)) (nan_is x t) ∙ clamp_nan (whole 1) (whole 100)) h)
      | inr t ↦ t
    ]

counted : (x : Float) → T (not (is_nan (clamp_of x (whole 1) (whole 100)))) → (1 ≤ to_unsigned 32 (clamp_of x (whole 1) (whole 100))) × (to_unsigned 32 (clamp_of x (whole 1) (whole 100)) ≤ 100)
counted x h =
    let w = clamp_within x (whole 1) (whole 100) (number x h) one_hundred in
    in_range (clamp_of x (whole 1) (whole 100)) w.0 w.1

-- ---- the lines of a range
-- 1 to 100 lines, or the one stop
abbrev pub Few : List Event → Type 0
Few es = (1 ≤ length es) × (length es ≤ 100)

lines_length : (s : Side) (f : Fit) (m i : ℕ) (at end : Vec2) → length (lines_of s f m i at end) ≡ suc m
unfolding lines_of
lines_length s f zero i at end = refl
lines_length s f (suc m) i at end = ap suc (lines_length s f m (i + 1) (place_of f i) end)

range_few : (s : Side) (f : Fit) (at end : Vec2) → (T (not (is_nan f.n)) → (1 ≤ to_unsigned 32 f.n) × (to_unsigned 32 f.n ≤ 100)) → Few (range_of s f at end)
unfolding range_of
range_few s f at end = go (is_nan f.n) (to_unsigned 32 f.n)
  where
    go : (b : Bool) (n : ℕ) → (T (not b) → (1 ≤ n) × (n ≤ 100)) → Few (cond b (no_count ∷ []) (lines_of s f (n - 1) 1 at end))
    go true n h = (omega arith, omega arith)
    go false n h =
        let l = lines_length s f (n - 1) 1 at end in
        let k = h tt in
        (omega (arith, l, k), omega (arith, l, k.0, k.1))

-- ---- the ranges
-- P holds of each of them
unfoldable pub Each : (List Event → Type 0) → List (List Event) → Type 0
Each P [] = Unit {0}
Each P (x ∷ xs) = P x × Each P xs

each_append : (P : List Event → Type 0) (xs ys : List (List Event)) → Each P xs → Each P ys → Each P (xs ++ ys)
unfolding Each
each_append P [] ys h k = k
each_append P (x ∷ xs) ys h k = (h.0, each_append P xs ys h.1 k)

-- what a walk accepts, with d halvings left: at most 2^d ranges, each of 1 to 100 lines
pub record Bounded (d : ℕ) (t : Trail) : Type 0 where
  pub ranges : length t.ranges ≤ 2 ^ d
  pub each : Each Few t.ranges

module _ (s : Side) where
  leaf : (d u : ℕ) (f : Front) → Bounded d (accepted s f (tip_of s d u))
  unfolding accepted Each fit_of
  leaf d u f = record { ranges = pow_pos d; each = (range_few s _ f.at _ (counted _), tt) }

  join : (d u : ℕ) (f : Front) (a : Trail) (b : Front → Trail) → Bounded d a → Bounded d (b a.front) → Bounded (suc d) (onward a b)
  unfolding onward
  join d u f a b h k =
      record {
        ranges = omega (arith, length-append a.ranges (b a.front).ranges, h.ranges, k.ranges);
        each = each_append Few a.ranges (b a.front).ranges h.each k.each;
      }

  pub bounded : (d u : ℕ) (f : Front) → Bounded d (walk s d u f)
  bounded = walks s (λ d u f t. Bounded d t) leaf join

  -- the ranges that a walk looks at: this one, and where it is halved those of its halves
  unfoldable pub looks : ℕ → ℕ → Front → ℕ
  looks zero u f = 1
  looks (suc d) u f =
      elim (is_near s f (tip_of s (suc d) u)) [ true ↦ 1 | false ↦ 1 + looks d (u * 2) f + looks d (u * 2 + 1) (walk s d (u * 2) f).front ]

  looks_near : (d u : ℕ) (f : Front) → is_near s f (tip_of s (suc d) u) ≡ true → looks (suc d) u f ≡ 1
  unfolding looks
  looks_near d u f e = cc

  looks_far : (d u : ℕ) (f : Front) → is_near s f (tip_of s (suc d) u) ≡ false → looks (suc d) u f ≡ 1 + looks d (u * 2) f + looks d (u * 2 + 1) (walk s d (u * 2) f).front
  unfolding looks
  looks_far d u f e = cc

  onward_length : (a : Trail) (b : Front → Trail) → length (onward a b).ranges ≡ length a.ranges + length (b a.front).ranges
  unfolding onward
  onward_length a b = length-append a.ranges (b a.front).ranges

  -- two for each that is accepted, but one
  pub looks_twice : (d u : ℕ) (f : Front) → looks d u f + 1 ≡ 2 * length (walk s d u f).ranges
  unfolding looks walk accepted
  looks_twice zero u f = refl
  looks_twice (suc d) u f = go (is_near s f (tip_of s (suc d) u)) refl (looks_twice d (u * 2) f) (looks_twice d (u * 2 + 1) (walk s d (u * 2) f).front)
    where
      go : (b : Bool) → is_near s f (tip_of s (suc d) u) ≡ b → looks d (u * 2) f + 1 ≡ 2 * length (walk s d (u * 2) f).ranges
          → looks d (u * 2 + 1) (walk s d (u * 2) f).front + 1 ≡ 2 * length (walk s d (u * 2 + 1) (walk s d (u * 2) f).front).ranges
          → looks (suc d) u f + 1 ≡ 2 * length (walk s (suc d) u f).ranges
      go true e h k = rw (looks_near d u f e, walk_near s d u f e)
      go false e h k =
          rw (looks_far d u f e, walk_far s d u f e) (omega (arith, h, k, onward_length (walk s d (u * 2) f) (walk s d (u * 2 + 1))))

  pub looks_at_most : (f : Front) → looks 16 0 f ≤ 131071
  looks_at_most f = omega (arith, looks_twice 16 0 f, (bounded 16 0 f).ranges)

  pub accepts_at_most : (f : Front) → length (walk s 16 0 f).ranges ≤ 65536
  accepts_at_most f = (bounded 16 0 f).ranges

-- ---- the lines of a curve
total : (xs : List (List Event)) → Each Few xs → length (flatten xs) ≤ 100 * length xs
unfolding Each flatten
total [] h = omega arith
total (x ∷ xs) h = omega (arith, length-append x (flatten xs), h.0.1, total xs h.1)

side_at_most : (s : Side) → length (side_events s) ≤ 6553600
unfolding side_events
side_at_most s = go (is_point s.points) _ (bounded s 16 0 _)
  where
    go : (b : Bool) (t : Trail) → Bounded 16 t → length (cond b [] (flatten t.ranges)) ≤ 6553600
    go true t h = omega arith
    go false t h = omega (arith, total t.ranges h.each, h.ranges)

pub lines_at_most : (cubic : List Vec2) (z : List Float) (offset : Float) (start end : Vec2) → length (euler_events cubic z offset start end) ≤ 6553600
unfolding euler_events
lines_at_most cubic z offset start end = side_at_most _
