-- How large the sine of a small angle is at most, how small its cosine at least, and how large the angle of a point near the x axis. Assumes nothing.
use Rattle.std.specs.Prelude.{◌≡◌, refl, Bool, true, not, ◌&&◌, cond, ℕ, zero, suc, ◌+◌, ◌*◌, ◌≤◌, ◌<◌, ℤ, pos, negsuc, Float}
use Rattle.std.proofs.Common.{sym, le_trans, le_of_eq, le_of_lt, lt_of_not-le, lt_of_lt_of_le, one-mul, mul-one, mul-pos, mul-le-mul_right, mul-lt-mul_of_pos_right, le_of_mul-le-mul_right, lt_of_mul-lt-mul_right, zero-lt-suc, ltb→lt, lt→ltb, nltb→le}
use Rattle.std.proofs.Math.Path.{ap, subst}
use Rattle.std.proofs.Math.Bool.{false}
use Rattle.std.proofs.Math.Nat.{lt_irrefl}
use native.Mathlib.Omega.{arith}
use Rattle.std.proofs.Math.Dec.{T}
use Rattle.std.specs.Float.{nan, inf, fin}
use Rattle.std.specs.Float.Ieee.{binary32, up, down, round, of_bits, fits, is_nan, neg, add, mul, div, lt, le, eq}
use Rattle.std.specs.Float.Ieee.Bits.{is_true}
use Rattle.std.specs.Float.Ieee.Fits.{up_pos, down_pos, div-fits}
use Rattle.std.specs.Float.Ieee.Order.{round_mono}
use Rattle.std.specs.Float.Ieee.Positive.{positive, above, above_of_le}
use Rattle.std.specs.Float.Ieee.Scale.{finite}
use borrow.Author.Tests.{le-ltb, ne_eqb}
use Rattle.laws.specs.Binary32.{◌⊕◌, ◌⊖◌, ◌⊗◌, ◌⊘◌, f32}
use Rattle.laws.specs.NotFinite.{unsigned, unsigned_round}
use Rattle.laws.specs.Own.{zero_exp}
use Rattle.laws.specs.Same.{is_zero, null, round_zero}
use Rattle.laws.specs.Size.{AtMost, lt_or_eq, round_at_most}
use Rattle.laws.specs.Limits.{Held, Small, AtLeast, times, plus, turned, own, zero_small, sum_least, div_is}
use Rattle.numbers.specs.Words.{sign_of, signed, abs_of}
use Rattle.numbers.specs.Limits.{abs_small, abs_under, small_of_abs}
use Rattle.trig.specs.Trig.{zero as none, one, minus_one, pi, infinity, bounded_of, sin_near, cos_near, reduced_of, curve_of, wave_of, sin_of, cos_of, atan_near, slope_of, angle_of, atan2_of}
use Rattle.trig.specs.TrigLaws.{cos_range, abs_inside}
use Rattle.trig.specs.Flat.{flat}

-- ---- a bound makes nothing larger
cross : (p j m e P K : ℕ) → 0 < e → p * e ≤ m * j → m * K ≤ P * e → p * K ≤ P * j
cross p j m e P K E h l =
    le_of_mul-le-mul_right (join p j m e P K (mul-le-mul_right K h) (mul-le-mul_right j l)) E
  where
    join : (p j m e P K : ℕ) → p * e * K ≤ m * j * K → m * K * j ≤ P * e * j → p * K * e ≤ P * j * e
    join p j m e P K h l = omega arith

no_sum : (a b : ℕ) → a + b ≤ 0 → b ≤ a
no_sum a b h = omega arith

no_sum_first : (a b : ℕ) → a + b ≤ 0 → a ≤ b
no_sum_first a b h = omega arith

-- what is not below p is no smaller, and what -p is not below
size_above : (s : Bool) (m : ℕ) (e : ℤ) (p : ℕ) (j : ℤ) → T (not (lt (fin s m e) (fin false p j))) → p * up j * down e ≤ m * up e * down j
unfolding lt
size_above true m e p j h = no_sum (m * up e * down j) (p * up j * down e) (nltb→le 0 (m * up e * down j + p * up j * down e) h)
size_above false m e p j h = nltb→le (m * up e * down j) (p * up j * down e) h

size_below : (s : Bool) (m : ℕ) (e : ℤ) (p : ℕ) (j : ℤ) → T (not (lt (fin true p j) (fin s m e))) → p * up j * down e ≤ m * up e * down j
unfolding lt
size_below true m e p j h = nltb→le (m * up e * down j) (p * up j * down e) h
size_below false m e p j h = no_sum_first (p * up j * down e) (m * up e * down j) (nltb→le 0 (p * up j * down e + m * up e * down j) h)

smaller : (b v : Float) (t : Bool) (p : ℕ) (j : ℤ) → ((s : Bool) (m : ℕ) (e : ℤ) → v ≡ fin s m e → p * up j * down e ≤ m * up e * down j) → Held b v → Held b (fin t p j)
smaller nan v t p j h l = tt
smaller (inf true) v t p j h l = absurd l
smaller (inf false) v t p j h l = tt
smaller (fin true n k) v t p j h l = absurd l
smaller (fin false n k) nan t p j h l = absurd l
smaller (fin false n k) (inf s) t p j h l = absurd l
smaller (fin false n k) (fin s m e) t p j h l = cross (p * up j) (down j) (m * up e) (down e) (n * up k) (down k) (down_pos e) (h s m e refl) l

bounded_small : {b v : Float} (s : Bool) (p : ℕ) (i : ℤ) (q : ℕ) (j : ℤ)
    → (T (not (lt (fin s p i) v)) → Small b (fin s p i)) → (T (not (lt v (fin false q j))) → Small b (fin false q j))
    → Small b v → Small b (bounded_of (fin s p i) (fin false q j) v)
unfolding bounded_of
bounded_small {b} {v} s p i q j low high h = go (lt (fin s p i) v) (lt v (fin false q j)) low high
  where
    go : (x y : Bool) → (T (not x) → Small b (fin s p i)) → (T (not y) → Small b (fin false q j)) → Small b (cond x (cond y v (fin false q j)) (fin s p i))
    go true true low high = h
    go true false low high = high tt
    go false y low high = low tt

-- a top that v reaches
over_top : {b v : Float} (p : ℕ) (j : ℤ) → T (not (lt v (fin false p j))) → Small b v → Small b (fin false p j)
over_top {b} {v} p j g h = record { held = smaller b v false p j (λ s m e k. size_above s m e p j (subst (λ (w : Float). T (not (lt w (fin false p j)))) k g)) h.held }

pub within_ones : {b v : Float} → Small b v → Small b (bounded_of minus_one one v)
unfolding of_bits
within_ones {b} {v} h =
    bounded_small true 1 (pos 0) 1 (pos 0)
    (λ g. record { held = smaller b v true 1 (pos 0) (λ s m e k. size_below s m e 1 (pos 0) (subst (λ (w : Float). T (not (lt (fin true 1 (pos 0)) w))) k g)) h.held })
    (λ g. over_top 1 (pos 0) g h) h

-- ---- sin: its sum with all coefficients positive, of what the angle is at most
unfoldable pub sin_limit : Float → Float
sin_limit a = let z = a ⊗ a in ((f32 0x394c6b2b ⊗ z ⊕ f32 0x3c08832c) ⊗ z ⊕ f32 0x3e2aaaa3) ⊗ (z ⊗ a) ⊕ a

pub near_small : {a x : Float} → Small a x → Small (sin_limit a) (sin_near x)
unfolding sin_limit sin_near
near_small {a} {x} h =
    let z = times h h in
    plus (times (plus (times (plus (times third z) second) z) first) (times z h)) h
  where
    third : Small (f32 0x394c6b2b) (f32 0xb94c6b2b)
    third = unfold of_bits in unfold neg in turned (own (f32 0x394c6b2b) tt)

    second : Small (f32 0x3c08832c) (f32 0x3c08832c)
    second = unfold of_bits in own (f32 0x3c08832c) tt

    first : Small (f32 0x3e2aaaa3) (f32 0xbe2aaaa3)
    first = unfold of_bits in unfold neg in turned (own (f32 0x3e2aaaa3) tt)

-- below 0.78125 an angle is its own rest
pub below_infinity : (a c : Float) → T (lt a c) → T (lt a infinity)
unfolding lt of_bits
below_infinity nan c h = absurd h
below_infinity (inf true) c h = tt
below_infinity (inf false) nan h = absurd h
below_infinity (inf false) (inf t) h = absurd h
below_infinity (inf false) (fin t n d) h = absurd h
below_infinity (fin s m e) c h = tt

pub sin_is : (x : Float) → T (lt (abs_of x) infinity) → T (lt (abs_of x) (f32 0x3f480000)) → sin_of x ≡ signed (sign_of x) (bounded_of minus_one one (sin_near (abs_of x)))
unfolding sin_of reduced_of wave_of curve_of signed
sin_is x f h = rw (is_true (lt (abs_of x) infinity) f, is_true (lt (abs_of x) (f32 0x3f480000)) h)

pub cos_is : (x : Float) → T (lt (abs_of x) infinity) → T (lt (abs_of x) (f32 0x3f480000)) → cos_of x ≡ bounded_of minus_one one (cos_near (abs_of x))
unfolding cos_of reduced_of wave_of curve_of signed
cos_is x f h = rw (is_true (lt (abs_of x) infinity) f, is_true (lt (abs_of x) (f32 0x3f480000)) h)

-- ---- cos: 1 less at most so much
unfoldable pub cos_drop : Float → Float
cos_drop a = let z = a ⊗ a in ((f32 0x3ab23a53 ⊗ z ⊕ f32 0x3d2a9fe7) ⊗ z ⊕ f32 0x3effffdf) ⊗ z

-- what is added to 1
abbrev dropped : Float → Float
dropped z = ((f32 0xbab23a53 ⊗ z ⊕ f32 0x3d2a9fe7) ⊗ z ⊕ f32 0xbeffffdf) ⊗ z

drop_small : {a x : Float} → Small a x → Small (cos_drop a) (dropped (x ⊗ x))
unfolding cos_drop
drop_small {a} {x} h =
    let z = times h h in
    times (plus (times (plus (times third z) second) z) first) z
  where
    third : Small (f32 0x3ab23a53) (f32 0xbab23a53)
    third = unfold of_bits in unfold neg in turned (own (f32 0x3ab23a53) tt)

    second : Small (f32 0x3d2a9fe7) (f32 0x3d2a9fe7)
    second = unfold of_bits in own (f32 0x3d2a9fe7) tt

    first : Small (f32 0x3effffdf) (f32 0xbeffffdf)
    first = unfold of_bits in unfold neg in turned (own (f32 0x3effffdf) tt)

-- nothing added is held to whatever something is
none_small : {b v : Float} → Small b v → Small b none
unfolding of_bits
none_small h = zero_small false (pos 0) h

one_least : AtLeast one one
unfolding of_bits le
one_least = record { above = tt; reached = tt }

none_and_one : none ⊕ one ≡ one
unfolding of_bits add
none_and_one = refl

pub cos_near_least : {a x : Float} → T (positive (one ⊖ cos_drop a)) → Small a x → AtLeast (one ⊖ cos_drop a) (cos_near x)
unfolding cos_near
cos_near_least p h = sum_least p one_least (drop_small h)

one_reached : {a x : Float} → T (positive (one ⊖ cos_drop a)) → Small a x → AtLeast (one ⊖ cos_drop a) one
one_reached {a} p h = subst (λ (v : Float). AtLeast (one ⊖ cos_drop a) v) none_and_one (sum_least p one_least (none_small (drop_small h)))

some : (d x : ℕ) → 0 < d → 0 < 1 * 1 * d + x
some d x h = omega arith

pub over_minus_one : (w : Float) → T (above w) → T (lt minus_one w)
unfolding lt of_bits
over_minus_one nan h = absurd h
over_minus_one (inf true) h = absurd h
over_minus_one (inf false) h = tt
over_minus_one (fin true m e) h = absurd h
over_minus_one (fin false m e) h = lt→ltb 0 (1 * 1 * down e + m * up e * 1) (some (down e) (m * up e * 1) (down_pos e))

no_less : {l w : Float} → AtLeast l one → AtLeast l w → AtLeast l (bounded_of minus_one one w)
unfolding bounded_of
no_less {l} {w} o h = go (lt minus_one w) (lt w one) (over_minus_one w (above_of_le l w h.above h.reached))
  where
    go : (x y : Bool) → T x → AtLeast l (cond x (cond y w one) minus_one)
    go true true t = h
    go true false t = o
    go false y t = absurd t

pub cos_least : {a x : Float} → T (lt a (f32 0x3f480000)) → T (positive (one ⊖ cos_drop a)) → Small a x → AtLeast (one ⊖ cos_drop a) (cos_of x)
cos_least {a} {x} l p h =
    subst (λ (v : Float). AtLeast (one ⊖ cos_drop a) v) (sym (cos_is x (abs_under infinity (below_infinity a (f32 0x3f480000) l) h) (abs_under (f32 0x3f480000) l h)))
    (no_less (one_reached p h) (cos_near_least p (abs_small h)))

finite_held : (a x : Float) → T (finite a) → Held a x → T (finite x)
finite_held nan x f h = absurd f
finite_held (inf s) x f h = absurd f
finite_held (fin true p k) x f h = absurd h
finite_held (fin false p k) nan f h = h
finite_held (fin false p k) (inf s) f h = h
finite_held (fin false p k) (fin s m e) f h = tt

pub cos_small : {a x : Float} → Small a x → T (finite a) → Small one (cos_of x)
cos_small {a} {x} h f =
    let w = cos_range x (finite_held a x f h.held) in
    small_of_abs (cos_of x) one (unfold of_bits in tt) (abs_inside (cos_of x) w.low w.high)

-- ---- atan2: below 2 ^ -14 the slope is the angle
-- q / j < p / k and p / k ≤ 2 ^ -14
chain : (q j p k : ℕ) → q * k < p * j → p * 16384 ≤ 1 * k → q * 16384 < 1 * j
chain q j p k h l =
    lt_of_mul-lt-mul_right k (join q j p k (mul-lt-mul_of_pos_right h (zero-lt-suc 16383)) (mul-le-mul_right j l))
  where
    join : (q j p k : ℕ) → q * k * 16384 < p * j * 16384 → p * 16384 * j ≤ 1 * k * j → q * 16384 * k < 1 * j * k
    join q j p k h l = omega arith

-- a slope t below a
record Slope (a t : Float) : Type 0 where
  thin : T (lt t (fin false 1 (negsuc 13)))
  small : Small a t

slope : (a t : Float) → T (unsigned t) → T (lt t a) → T (le a (fin false 1 (negsuc 13))) → Slope a t
unfolding lt le
slope a nan u h l = absurd h
slope a (inf true) u h l = absurd u
slope nan (inf false) u h l = absurd h
slope (inf t) (inf false) u h l = absurd h
slope (fin t n d) (inf false) u h l = absurd h
slope a (fin true q j) u h l = absurd u
slope nan (fin false q j) u h l = absurd h
slope (inf true) (fin false q j) u h l = absurd h
slope (inf false) (fin false q j) u h l = absurd l
slope (fin true p k) (fin false q j) u h l = absurd h
slope (fin false p k) (fin false q j) u h l =
    let g = ltb→lt (q * up j * down k) (p * up k * down j) h in
    record {
      thin = lt→ltb (q * up j * 16384) (1 * 1 * down j) (chain (q * up j) (down j) (p * up k) (down k) g (lt_or_eq (p * up k * 16384) (1 * 1 * down k) l));
      small = record { held = le_of_lt g };
    }

pub above_none : (m : ℕ) (e : ℤ) → T (lt (fin false 0 (pos 0)) (fin false (suc m) e))
unfolding lt
above_none m e = lt→ltb (0 * 1 * down e) (suc m * up e * 1) (some (down e) (suc m * up e) (mul-pos (zero-lt-suc m) (up_pos e)))
  where
    some : (w v : ℕ) → 0 < v → 0 * 1 * w < v * 1
    some w v g = omega arith

-- its own arc tangent, +0 too
atan_none : atan_near (fin false 0 (pos 0)) ≡ fin false 0 (pos 0)
unfolding atan_near add mul of_bits
atan_none = refl

atan_is : (t : Float) → T (unsigned t) → T (fits binary32 t) → T (lt t (fin false 1 (negsuc 13))) → atan_near t ≡ t
atan_is nan u f h = unfold lt in absurd h
atan_is (inf true) u f h = absurd u
atan_is (inf false) u f h = unfold lt in absurd h
atan_is (fin true q j) u f h = absurd u
atan_is (fin false zero j) u f h = subst (λ (k : ℤ). atan_near (fin false 0 k) ≡ fin false 0 k) (sym (zero_exp binary32 false j f)) atan_none
atan_is (fin false (suc q) j) u f h = flat (fin false (suc q) j) f (above_none q j) h

-- at a slope below 1, y is below x
steep : (t : Float) → T (unsigned t) → T (lt t (fin false 1 (negsuc 13))) → T (le (fin false 1 (pos 0)) t) → ⊥
unfolding lt le
steep nan u h l = h
steep (inf true) u h l = u
steep (inf false) u h l = h
steep (fin true q j) u h l = u
steep (fin false q j) u h l = clash (q * up j) (down j) (ltb→lt (q * up j * 16384) (1 * 1 * down j) h) (lt_or_eq (1 * 1 * down j) (q * up j * 1) l)
  where
    clash : (v w : ℕ) → v * 16384 < 1 * 1 * w → 1 * 1 * w ≤ v * 1 → ⊥
    clash v w h l = lt_irrefl 0 (omega arith)

within_half_turn : {b v : Float} → Small b v → Small b (bounded_of none pi v)
unfolding of_bits
within_half_turn h = bounded_small false 0 (pos 0) 13176795 (negsuc 21) (λ g. none_small h) (λ g. over_top 13176795 (negsuc 21) g h) h

-- the point (x, y), both finite, x above zero and y not below it
module _ (n : ℕ) (d : ℤ) (m : ℕ) (e : ℤ) where
  abbrev y : Float
  y = fin false n d

  abbrev x : Float
  x = fin false (suc m) e

  abbrev X : ℕ
  X = n * up d * down e

  abbrev Y : ℕ
  Y = suc m * up e * down d

  pub bare : T (unsigned (y ⊘ x))
  bare = subst (λ (t : Float). T (unsigned t)) (sym (div_is false n d false m e)) (unsigned_round binary32 X Y)

  Y_pos : 0 < Y
  Y_pos = mul-pos (mul-pos (zero-lt-suc m) (up_pos e)) (down_pos d)

  pub slope_none : n ≡ 0 → T (is_zero (y ⊘ x))
  slope_none z = rw (div_is false n d false m e, z, null (up d) (down e), round_zero binary32 false Y Y_pos) tt

  -- y is below x
  module _ (g : X < Y) where
    pub slope_small : Small one (y ⊘ x)
    unfolding of_bits round
    slope_small = record { held = subst (λ (v : Float). AtMost 1 1 v) (sym (div_is false n d false m e)) (round_at_most false X Y 1 1 1 (pos 0) Y_pos (zero-lt-suc 0) (at_most X Y g) refl) }
      where
        at_most : (a b : ℕ) → a < b → a * 1 ≤ 1 * b
        at_most a b h = omega arith

    not_steep : lt x y ≡ false
    unfolding lt
    not_steep = le-ltb Y X (le_of_lt g)

    not_level : eq y x ≡ false
    unfolding eq
    not_level = ap (λ (b : Bool). b && true) (ne_eqb X Y (λ e. lt_irrefl X (lt_of_lt_of_le g (le_of_eq (sym e)))))

    pub angle_is : angle_of y x ≡ cond (eq y none) none (atan_near (y ⊘ x))
    unfolding angle_of slope_of abs_of signed sign_of
    angle_is = rw (not_steep, not_level)

  module _ (a : Float) (h : T (lt (y ⊘ x) a)) (l : T (le a (fin false 1 (negsuc 13)))) where
    its : Slope a (y ⊘ x)
    its = slope a (y ⊘ x) bare h l

    lower : Y ≤ X → ⊥
    unfolding round
    lower g =
        steep (y ⊘ x) bare its.thin
        (subst (λ (t : Float). T (le (fin false 1 (pos 0)) t)) (sym (div_is false n d false m e))
        (round_mono binary32 1 1 X Y (zero-lt-suc 0) Y_pos
        (le_trans (le_of_eq (one-mul Y)) (le_trans g (le_of_eq (sym (mul-one X)))))))

    either_small : (b : Bool) → Small a (cond b none (atan_near (y ⊘ x)))
    either_small true = none_small its.small
    either_small false = subst (λ (t : Float). Small a t) (sym (atan_is (y ⊘ x) bare (div-fits binary32 y x) its.thin)) its.small

    angle_small : Small a (bounded_of none pi (angle_of y x))
    angle_small = subst (λ (v : Float). Small a (bounded_of none pi v)) (sym (angle_is (lt_of_not-le lower))) (within_half_turn (either_small (eq y none)))

pub nothing_above : (a : Float) → T (lt (inf false) a) → ⊥
unfolding lt
nothing_above nan h = h
nothing_above (inf t) h = h
nothing_above (fin t n d) h = h

pub atan2_small : (y x a : Float) → T (positive x) → T (lt (abs_of y ⊘ x) a) → T (le a (f32 0x38800000)) → Small a (atan2_of y x)
unfolding atan2_of abs_of signed sign_of is_nan of_bits
atan2_small y nan a p h l = absurd p
atan2_small y (inf s) a p h l = absurd p
atan2_small y (fin true m e) a p h l = absurd p
atan2_small y (fin false zero e) a p h l = absurd p
atan2_small nan (fin false (suc m) e) a p h l = unfold div in unfold lt in absurd h
atan2_small (inf true) (fin false (suc m) e) a p h l = unfold neg in unfold div in absurd (nothing_above a h)
atan2_small (inf false) (fin false (suc m) e) a p h l = unfold div in absurd (nothing_above a h)
atan2_small (fin true n d) (fin false (suc m) e) a p h l = unfold neg in turned (angle_small n d m e a h l)
atan2_small (fin false n d) (fin false (suc m) e) a p h l = angle_small n d m e a h l
