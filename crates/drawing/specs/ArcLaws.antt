-- An arc draws at least one line and, at angle π, at most 31,416, whatever its radius, a NaN or an infinity too. Known of the mathematics: a maximum is at least its second operand where that is a number, and a ceiling is exact. Assumes nothing.
use Rattle.std.specs.Prelude.{ℕ, zero, suc, ◌+◌, ◌-◌, ◌*◌, ◌/◌, ◌≤◌, ◌<◌, ◌≡◌, refl, Bool, true, false, not, List, T, negsuc, length, Float}
use Rattle.std.proofs.Common.{sym, ap, ◌∙◌, subst, true≢false, le_trans, le_of_eq, div-lt_iff_lt-mul, mul-div_cancel, mul-one, mul-pos, zero-lt-suc, arith, ne_eqb}
use Rattle.std.proofs.Math.Nat.{min-le_left, le-max_right, max-le}
use Rattle.std.specs.Float.{nan, inf, fin, binary32}
use Rattle.std.specs.Float.Ieee.{up, down, round, div, le, fits, is_nan, to_unsigned, of_bits}
use Rattle.std.specs.Float.Ieee.Back.{round_whole}
use Rattle.std.specs.Float.Ieee.Exact.{HasValue}
use Rattle.std.specs.Float.Ieee.Fits.{up_pos, down_pos, div-fits}
use Rattle.std.specs.Float.Ieee.Order.{round_mono}
use Rattle.std.specs.Float.Ieee.Positive.{num, den, positive, above, above_of_le, le→cross}
use Rattle.laws.specs.Binary32.{◌⊘◌, whole}
use Rattle.laws.specs.Same.{plus_zero, round_zero}
use Rattle.laws.specs.Dyadic.{le_values}
use Rattle.maths.specs.Numbers.{ceil_of, max_right, ceil_exact}
use Rattle.maths.specs.Trig.{pi}
use Rattle.spiral.specs.declared.util.Vec2.{Vec2}
use Rattle.drawing.specs.Arc.{min_theta, arc_radius, arc_step, arc_count, chords, arc_of}

-- ---- what is at most a whole number has its ceiling, as a u32, at most there
below_zero : (z : Float) (a : ℕ) → HasValue z true a 1 → to_unsigned 32 z ≡ 0
unfolding to_unsigned
below_zero nan a v = absurd v
below_zero (inf s) a v = absurd v
below_zero (fin true m e) a v = refl
below_zero (fin false m e) a v = absurd (true≢false (sym v.0))

unsigned_of : (z : Float) (a : ℕ) → HasValue z false a 1 → to_unsigned 32 z ≤ a
unfolding to_unsigned
unsigned_of nan a v = absurd v
unsigned_of (inf s) a v = absurd v
unsigned_of (fin true m e) a v = absurd (true≢false v.0)
unsigned_of (fin false m e) a v =
    le_trans (min-le_left (m * up e / down e) 4294967295)
    (le_of_eq (ap (λ (n : ℕ). n / down e) (sym (mul-one (m * up e)) ∙ v.1) ∙ mul-div_cancel a (down_pos e)))

up_to : (a b k : ℕ) → 0 < b → a ≤ k * b → (a + (b - 1)) / b ≤ k
up_to a b k B h =
    let l : a + (b - 1) < (k + 1) * b = omega arith in
    let q : (a + (b - 1)) / b < k + 1 = (div-lt_iff_lt-mul B).1 l in
    omega arith

not_over : (z : Float) (s : Bool) (a c : ℕ) → HasValue z s a c → T (le (inf false) z) → ⊥
unfolding le
not_over nan s a c v h = absurd v
not_over (inf t) s a c v h = absurd v
not_over (fin t m e) s a c v h = h

ceil_under : (y : Float) (k : ℕ) → k ≤ 16777216 → T (fits binary32 y) → T (le plus_zero y) → T (le y (whole k)) → to_unsigned 32 (ceil_of y) ≤ k
unfolding le
ceil_under nan k K f l h = absurd h
ceil_under (inf true) k K f l h = absurd l
ceil_under (inf false) k K f l h = absurd (not_over (whole k) false k 1 (round_whole binary32 false k K) h)
ceil_under (fin true m e) k K f l h = rw (below_zero (ceil_of (fin true m e)) _ (ceil_exact true m e f)) (omega arith)
ceil_under (fin false m e) k K f l h =
    let one : 0 < 1 = omega arith in
    let small : m * up e * 1 ≤ k * down e = le_values (fin false m e) (whole k) (m * up e) (down e) k 1 (down_pos e) one (refl, refl) (round_whole binary32 false k K) h in
    le_trans (unsigned_of (ceil_of (fin false m e)) _ (ceil_exact false m e f)) (up_to (m * up e) (down e) k (down_pos e) (omega arith))

-- ---- π by a turn of at least 0.0001 is at most 31,416
abbrev Bounded : Float → Type 0
Bounded y = T (le plus_zero y) × T (le y (whole 31416))

from_zero : (a b : ℕ) → 0 < b → T (le plus_zero (round binary32 false a b))
from_zero a b B =
    let one : 0 < 1 = omega arith in
    subst (λ (z : Float). T (le z (round binary32 false a b))) (round_zero binary32 false 1 one) (round_mono binary32 0 1 a b one B (omega arith))

-- x / d is the turn, 13743895 / 2 ^ 37 the least one, and 13176795 / 2 ^ 22 is π
ratio : (x d : ℕ) → 0 < x → 13743895 * d ≤ x * 137438953472 → Bounded (round binary32 false (13176795 * d) (x * 4194304))
ratio x d X h =
    let one : 0 < 1 = omega arith in
    let some : 0 < x * 4194304 = omega arith in
    let few : 13176795 * d * 1 ≤ 31416 * (x * 4194304) = omega arith in
    (from_zero (13176795 * d) (x * 4194304) some, round_mono binary32 (13176795 * d) (x * 4194304) 31416 1 some one few)

not_none : (n : ℕ) → suc n ≡ 0 → ⊥
not_none n h = omega arith

by_turn : (t : Float) → T (above t) → (T (positive t) → 13743895 * den t ≤ num t * 137438953472) → Bounded (div binary32 (fin false 13176795 (negsuc 21)) t)
unfolding div
by_turn nan a k = absurd a
by_turn (inf true) a k = absurd a
by_turn (inf false) a k = (from_zero', below_all)
  where
    from_zero' : T (le plus_zero plus_zero)
    from_zero' = unfold le in tt

    below_all : T (le plus_zero (whole 31416))
    below_all = from_zero 31416 1 (omega arith)
by_turn (fin true n d) a k = absurd a
by_turn (fin false zero d) a k = absurd a
by_turn (fin false (suc n) d) a k = rw (ne_eqb (suc n) 0 (not_none n)) (ratio (suc n * up d) (down d) (mul-pos (zero-lt-suc n) (up_pos d)) (k a))

least : min_theta ≡ fin false 13743895 (negsuc 36)
unfolding round
least = refl

pi_is : pi ≡ fin false 13176795 (negsuc 21)
unfolding of_bits
pi_is = refl

bounded : (t : Float) → T (le min_theta t) → Bounded (pi ⊘ t)
bounded t h =
    let l : T (le (fin false 13743895 (negsuc 36)) t) = subst (λ (m : Float). T (le m t)) least h in
    subst (λ (p : Float). Bounded (p ⊘ t)) (sym pi_is)
    (by_turn t (above_of_le (fin false 13743895 (negsuc 36)) t tt l) (λ p. le→cross (fin false 13743895 (negsuc 36)) t tt p l))

a_number : T (not (is_nan min_theta))
unfolding round is_nan
a_number = tt

pub few : (radius : Float) → arc_count pi (arc_step radius) ≤ 31416
unfolding arc_count arc_step
few radius =
    let b = bounded (arc_step radius) (max_right _ min_theta a_number) in
    max-le (ceil_under (pi ⊘ arc_step radius) 31416 (omega arith) (div-fits binary32 pi (arc_step radius)) b.0 b.1) (omega arith)

-- ---- the lines of an arc
chords_length : (k : ℕ) (rot z : List Float) (center end p r : Vec2) → length (chords k rot z center end p r) ≡ suc k
unfolding chords
chords_length zero rot z center end p r = refl
chords_length (suc k) rot z center end p r = ap suc (chords_length k rot z center end _ _)

module _ (z : List Float) (from to center : Vec2) where
  pub arc_length : (angle : Float) → length (arc_of z from to center angle) ≡ arc_count angle (arc_step (arc_radius z from center))
  unfolding arc_of arc_count
  arc_length angle = chords_length _ _ z center to _ _ ∙ omega (arith, le-max_right (to_unsigned 32 (ceil_of (angle ⊘ arc_step (arc_radius z from center)))) 1)

  pub arc_some : (angle : Float) → 1 ≤ length (arc_of z from to center angle)
  unfolding arc_count
  arc_some angle = rw (arc_length angle) (le-max_right _ 1)

  pub arc_few : length (arc_of z from to center pi) ≤ 31416
  arc_few = rw (arc_length pi) (few _)
