-- The floor and the ceiling as integers rise with the number: where y is not below x, neither is what y is brought to. Assumes nothing.
use Rattle.std.specs.Prelude.{◌≡◌, ℕ, zero, suc, ◌+◌, ◌-◌, ◌*◌, ◌/◌, ◌^◌, ◌<◌, ◌≤◌, min, Bool, true, false, not, ◌&&◌, ◌||◌, T, ℤ, pos, neg_ℤ, ◌==◌, int_lt, nat_lt, refl, Float}
use Rattle.std.proofs.Common.{sym, ap, ◌∙◌, subst, inl, inr, zero-le, le_refl, le_trans, le_of_eq, le_of_lt, zero-lt-suc, mul-le-mul_right, mul_right_comm, le_of_mul-le-mul_right, lt_of_mul-lt-mul_right, arith, ltb→lt, nltb→le, eqb→eq, le-ltb}
use Rattle.std.specs.Float.Ieee.{nan, binary32, up, down, round, neg, lt, le, is_nan, to_signed}
use Rattle.std.specs.Float.{inf, fin}
use Rattle.std.specs.Float.Ieee.Fits.{down_pos, and_l}
use Rattle.std.specs.Float.Ieee.Nearest.{div_mono}
use Rattle.std.specs.Float.Ieee.Order.{round_mono}
use Rattle.laws.specs.Neg.{round_neg}
use Rattle.laws.specs.NotFinite.{unsigned, unsigned_round}
use Rattle.laws.specs.Own.{or_split}
use Rattle.numbers.specs.Words.{sign_of}
use Rattle.numbers.specs.Whole.{quot, whole_of, floor_of, ceil_of}
use Rattle.numbers.specs.WholeLaws.{quot_up}

-- ---- quotients of fractions in order
one_less : (k q d : ℕ) → q * d < k * d + d → q * d < (k + 1) * d
one_less k q d h = omega arith

at_most : (q k : ℕ) → q < k + 1 → q ≤ k
at_most q k h = omega arith

room : (q a k d : ℕ) → q < a + d → a ≤ k → q < k + d
room q a k d h l = omega arith

quot_rises : (u : Bool) (a b c d : ℕ) → 0 < b → 0 < d → a * d ≤ c * b → quot u a b ≤ quot u c d
quot_rises false a b c d B D h = div_mono a b c d B D h
quot_rises true a b c d B D h =
    let q = quot true a b in
    let k = quot true c d in
    let l : a * d ≤ k * b * d = le_trans h (le_trans (mul-le-mul_right b (quot_up c d D).0) (le_of_eq (mul_right_comm k d b))) in
    at_most q k (lt_of_mul-lt-mul_right b (one_less k q b (room (q * b) a (k * b) b (quot_up a b B).1 (le_of_mul-le-mul_right l D))))

-- ---- how large a float is as an integer, at most c
cap : ℕ → Float → ℕ
cap c nan = 0
cap c (inf s) = c
cap c (fin s m e) = min (m * up e / down e) c

min_rises : (a b c : ℕ) → a ≤ b → min a c ≤ min b c
min_rises a b c h = omega arith

min_right : (a c : ℕ) → min a c ≤ c
min_right a c = omega arith

cap_most : (c : ℕ) (x : Float) → cap c x ≤ c
unfolding cap
cap_most c nan = zero-le
cap_most c (inf s) = le_refl c
cap_most c (fin s m e) = min_right (m * up e / down e) c

lt_or_eq : (a b : ℕ) → T (nat_lt a b || (a == b && true)) → a ≤ b
lt_or_eq a b t = elim (or_split (nat_lt a b) (a == b && true) t) [ inl u ↦ le_of_lt (ltb→lt a b u) | inr u ↦ le_of_eq (eqb→eq a b (and_l (a == b) true u)) ]

cap_rises : (c : ℕ) (x y : Float) → T (unsigned x) → T (unsigned y) → T (le x y) → cap c x ≤ cap c y
unfolding cap le
cap_rises c nan y p q h = absurd h
cap_rises c (inf true) y p q h = absurd p
cap_rises c (inf false) nan p q h = absurd h
cap_rises c (inf false) (inf t) p q h = le_refl c
cap_rises c (inf false) (fin t n d) p q h = absurd h
cap_rises c (fin true m e) y p q h = absurd p
cap_rises c (fin false m e) nan p q h = absurd h
cap_rises c (fin false m e) (inf t) p q h = min_right (m * up e / down e) c
cap_rises c (fin false m e) (fin true n d) p q h = absurd q
cap_rises c (fin false m e) (fin false n d) p q h =
    min_rises (m * up e / down e) (n * up d / down d) c (div_mono (m * up e) (down e) (n * up d) (down d) (down_pos e) (down_pos d) (lt_or_eq (m * up e * down d) (n * up d * down e) h))

-- ---- a whole number q that is rounded, as an integer with its sign
rounded : ℕ → ℕ → ℕ
rounded c q = cap c (round binary32 false q 1)

rounded_rises : (c q r : ℕ) → q ≤ r → rounded c q ≤ rounded c r
unfolding rounded
rounded_rises c q r h =
    cap_rises c (round binary32 false q 1) (round binary32 false r 1) (unsigned_round binary32 q 1) (unsigned_round binary32 r 1)
    (round_mono binary32 q 1 r 1 (zero-lt-suc 0) (zero-lt-suc 0) (mul-le-mul_right 1 h))

ends : ℕ → Bool → ℕ → ℤ
ends h true q = neg_ℤ (pos (rounded (2 ^ h) q))
ends h false q = pos (rounded (2 ^ h - 1) q)

plain : (h : ℕ) (x : Float) → T (unsigned x) → to_signed h x ≡ pos (cap (2 ^ h - 1) x)
unfolding to_signed cap
plain h nan p = refl
plain h (inf true) p = absurd p
plain h (inf false) p = refl
plain h (fin true m e) p = absurd p
plain h (fin false m e) p = refl

turned : (h : ℕ) (x : Float) → T (unsigned x) → to_signed h (neg x) ≡ neg_ℤ (pos (cap (2 ^ h) x))
unfolding to_signed cap neg
turned h nan p = refl
turned h (inf true) p = absurd p
turned h (inf false) p = refl
turned h (fin true m e) p = absurd p
turned h (fin false m e) p = refl

as_ends : (h : ℕ) (s : Bool) (q : ℕ) → to_signed h (round binary32 s q 1) ≡ ends h s q
unfolding ends rounded
as_ends h true q = ap (to_signed h) (round_neg binary32 false q 1) ∙ turned h (round binary32 false q 1) (unsigned_round binary32 q 1)
as_ends h false q = plain h (round binary32 false q 1) (unsigned_round binary32 q 1)

-- ---- integers in order
never_below : (a k : ℕ) → int_lt (pos a) (neg_ℤ (pos k)) ≡ false
never_below a zero = le-ltb a 0 zero-le
never_below a (suc k) = refl

not_below : (a b : ℕ) → b ≤ a → int_lt (pos a) (pos b) ≡ false
not_below a b h = le-ltb a b h

less : (a b : ℕ) → suc a ≤ suc b → a ≤ b
less a b h = omega arith

neg_not_below : (j k : ℕ) → j ≤ k → int_lt (neg_ℤ (pos j)) (neg_ℤ (pos k)) ≡ false
neg_not_below zero k h = never_below 0 k
neg_not_below (suc j) zero h = absurd (omega arith)
neg_not_below (suc j) (suc k) h = le-ltb k j (less j k h)

zeros : (j k : ℕ) → j ≡ 0 → k ≡ 0 → int_lt (neg_ℤ (pos j)) (pos k) ≡ false
zeros j k e f = rw (e, f) refl

-- ---- nothing
none : (a b : ℕ) → 0 < b → a * b ≡ 0 → a ≡ 0
none zero b B h = refl
none (suc a) b B h = absurd (omega arith)

-- a whole number of none is none, rounded up too
quot_none : (u : Bool) (a d : ℕ) → 0 < d → a ≡ 0 → quot u a d ≤ 0
quot_none true a d D e = quot_rises true a d 0 1 D (zero-lt-suc 0) (rw e (omega arith))
quot_none false a d D e = quot_rises false a d 0 1 D (zero-lt-suc 0) (rw e (omega arith))

min_none : (c : ℕ) → min 0 c ≡ 0
min_none c = omega arith

nothing : (c q : ℕ) → q ≤ 0 → rounded c q ≡ 0
unfolding rounded cap round
nothing c zero h = min_none c
nothing c (suc q) h = absurd (omega arith)

not_less : (a b : ℕ) → nat_lt a b ≡ false → b ≤ a
not_less a b e = nltb→le a b (subst (λ (z : Bool). T (not z)) (sym e) tt)

both_none : (a b : ℕ) → a + b ≤ 0 → (a ≡ 0) × (b ≡ 0)
both_none a b h = (omega arith, omega arith)

-- ---- two numbers: U says, of a sign, whether the whole number is the one away from zero
module _ (U : Bool → Bool) (h : ℕ) where
  abbrev wholes : Float → ℤ
  wholes x = to_signed h (whole_of (U (sign_of x)) x)

  finite : (s : Bool) (m : ℕ) (e : ℤ) → wholes (fin s m e) ≡ ends h s (quot (U s) (m * up e) (down e))
  unfolding whole_of sign_of
  finite s m e = as_ends h s (quot (U s) (m * up e) (down e))

  in_order : (s : Bool) (m : ℕ) (e : ℤ) (t : Bool) (n : ℕ) (d : ℤ) → lt (fin t n d) (fin s m e) ≡ false
      → int_lt (ends h t (quot (U t) (n * up d) (down d))) (ends h s (quot (U s) (m * up e) (down e))) ≡ false
  unfolding ends lt
  in_order true m e false n d l = never_below (rounded (2 ^ h - 1) (quot (U false) (n * up d) (down d))) (rounded (2 ^ h) (quot (U true) (m * up e) (down e)))
  in_order false m e false n d l =
      let q = quot (U false) (m * up e) (down e) in
      let r = quot (U false) (n * up d) (down d) in
      not_below (rounded (2 ^ h - 1) r) (rounded (2 ^ h - 1) q)
      (rounded_rises (2 ^ h - 1) q r (quot_rises (U false) (m * up e) (down e) (n * up d) (down d) (down_pos e) (down_pos d) (not_less (n * up d * down e) (m * up e * down d) l)))
  in_order true m e true n d l =
      let q = quot (U true) (m * up e) (down e) in
      let r = quot (U true) (n * up d) (down d) in
      neg_not_below (rounded (2 ^ h) r) (rounded (2 ^ h) q)
      (rounded_rises (2 ^ h) r q (quot_rises (U true) (n * up d) (down d) (m * up e) (down e) (down_pos d) (down_pos e) (not_less (m * up e * down d) (n * up d * down e) l)))
  in_order false m e true n d l =
      let z = both_none (n * up d * down e) (m * up e * down d) (not_less 0 (n * up d * down e + m * up e * down d) l) in
      zeros (rounded (2 ^ h) (quot (U true) (n * up d) (down d))) (rounded (2 ^ h - 1) (quot (U false) (m * up e) (down e)))
      (nothing (2 ^ h) (quot (U true) (n * up d) (down d)) (quot_none (U true) (n * up d) (down d) (down_pos d) (none (n * up d) (down e) (down_pos e) z.0)))
      (nothing (2 ^ h - 1) (quot (U false) (m * up e) (down e)) (quot_none (U false) (m * up e) (down e) (down_pos e) (none (m * up e) (down d) (down_pos d) z.1)))

  -- the ends of the range
  lowest : (t : Bool) (q : ℕ) → int_lt (ends h t q) (neg_ℤ (pos (2 ^ h))) ≡ false
  unfolding ends rounded
  lowest true q = neg_not_below (rounded (2 ^ h) q) (2 ^ h) (cap_most (2 ^ h) (round binary32 false q 1))
  lowest false q = never_below (rounded (2 ^ h - 1) q) (2 ^ h)

  highest : (s : Bool) (q : ℕ) → int_lt (pos (2 ^ h - 1)) (ends h s q) ≡ false
  unfolding ends rounded
  highest true q = never_below (2 ^ h - 1) (rounded (2 ^ h) q)
  highest false q = not_below (2 ^ h - 1) (rounded (2 ^ h - 1) q) (cap_most (2 ^ h - 1) (round binary32 false q 1))

  clash : {A : Type 0} → true ≡ false → A
  clash e = let z : ◌≡◌ {A = ℕ} 0 1 = cc in absurd (omega arith)

  rises : (x y : Float) → T (not (is_nan x)) → T (not (is_nan y)) → lt y x ≡ false → int_lt (wholes y) (wholes x) ≡ false
  unfolding is_nan lt whole_of to_signed sign_of
  rises nan y a b l = absurd a
  rises (inf s) nan a b l = absurd b
  rises (fin s m e) nan a b l = absurd b
  rises (inf true) (inf true) a b l = neg_not_below (2 ^ h) (2 ^ h) (le_refl (2 ^ h))
  rises (inf true) (inf false) a b l = never_below (2 ^ h - 1) (2 ^ h)
  rises (inf false) (inf true) a b l = clash l
  rises (inf false) (inf false) a b l = not_below (2 ^ h - 1) (2 ^ h - 1) (le_refl (2 ^ h - 1))
  rises (inf true) (fin t n d) a b l = rw (finite t n d) (lowest t (quot (U t) (n * up d) (down d)))
  rises (inf false) (fin t n d) a b l = clash l
  rises (fin s m e) (inf true) a b l = clash l
  rises (fin s m e) (inf false) a b l = rw (finite s m e) (highest s (quot (U s) (m * up e) (down e)))
  rises (fin s m e) (fin t n d) a b l = rw (finite t n d, finite s m e) (in_order s m e t n d l)

pub floor_rises : (h : ℕ) (x y : Float) → T (not (is_nan x)) → T (not (is_nan y)) → lt y x ≡ false → int_lt (to_signed h (floor_of y)) (to_signed h (floor_of x)) ≡ false
unfolding floor_of
floor_rises h x y a b l = rises (λ s. s) h x y a b l

pub ceil_rises : (h : ℕ) (x y : Float) → T (not (is_nan x)) → T (not (is_nan y)) → lt y x ≡ false → int_lt (to_signed h (ceil_of y)) (to_signed h (ceil_of x)) ≡ false
unfolding ceil_of
ceil_rises h x y a b l = rises not h x y a b l

-- above all numbers, and below
pub floor_above : (h : ℕ) → to_signed h (floor_of (inf false)) ≡ pos (2 ^ h - 1)
unfolding floor_of whole_of to_signed
floor_above h = refl

pub ceil_below : (h : ℕ) → to_signed h (ceil_of (inf true)) ≡ neg_ℤ (pos (2 ^ h))
unfolding ceil_of whole_of to_signed
ceil_below h = refl
