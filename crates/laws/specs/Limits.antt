-- A number held to a limit, by limits that are numbers too: an expression is held to the same expression of its parts' limits, with plus for each minus.
-- Assumes nothing.
use Rattle.std.specs.Prelude.{◌≡◌, refl, Bool, true, false, not, ◌&&◌, ◌||◌, cond, ℕ, zero, suc, ◌+◌, ◌-◌, ◌*◌, ◌^◌, ◌≤◌, ◌<◌, ℤ, pos, T, ltb, eqb, Float}
use Rattle.std.proofs.Common.{sym, ap, ◌∙◌, subst, zero-le, le_refl, le_trans, le_of_eq, le_of_lt, le_of_suc-le-suc, lt_of_le_of_lt, lt_of_lt_of_le, lt_of_not-le, not-le_of_lt, zero-lt-suc, one-mul, mul-one, mul_assoc, mul_comm, mul_left_comm, mul-le-mul, mul-le-mul_right, le_of_mul-le-mul_right, mul_right_comm, mul-lt-mul_of_pos_right, lt_of_mul-lt-mul_right, mul-pos, zero-mul, arith, ltb→lt, lt→ltb, nltb→le, lt-ltb, le-ltb}
use Rattle.std.proofs.Math.Nat.{mul-mul-mul_comm, mul-sub}
use Rattle.std.proofs.Math.Dec.{eqb-suc-zero}
use Rattle.std.specs.Float.{nan, inf, fin, binary32}
use Rattle.std.specs.Float.Ieee.{up, down, unlike, below, round, sum, neg, add, sub, mul, div, lt, eq, le}
use Rattle.std.specs.Float.Ieee.Fits.{up_pos, down_pos, and_l, and_r}
use Rattle.std.specs.Float.Ieee.Order.{le_of_values, round_mono}
use Rattle.std.specs.Float.Ieee.Scale.{round_same}
use Rattle.std.specs.Float.Ieee.Positive.{num, den, positive, above, above_of_le, le_trans_positive, mul_mono}
use Rattle.laws.specs.Binary32.{◌⊕◌, ◌⊖◌, ◌⊗◌, ◌⊘◌, dec, whole}
use Rattle.laws.specs.Compare.{under_zero}
use Rattle.laws.specs.Neg.{round_neg}
use Rattle.laws.specs.Same.{add_swap, mul_swap}
use Rattle.laws.specs.NotFinite.{unsigned, unsigned_round}
use Rattle.laws.specs.Size.{AtMost, widened, of_unsigned, lt_or_eq, zero_at_most, le_at_most, neg_at_most, round_at_most, round_twice, mul_at_most, add_at_most}

-- a limit that is not finite asks nothing, and no limit has a minus sign
abbrev pub Held : Float → Float → Type 0
Held nan x = T true
Held (inf true) x = ⊥
Held (inf false) x = T true
Held (fin true p k) x = ⊥
Held (fin false p k) x = AtMost (p * up k) (down k) x

-- x is finite, and its size is at most the limit, where that is finite
pub record Small (limit x : Float) : Type 0 where
  pub held : Held limit x

-- x is at least the limit, which is finite and above zero
pub record AtLeast (limit x : Float) : Type 0 where
  pub above : T (positive limit)
  pub reached : T (le limit x)

-- ---- the limits of an expression
by_limit : (v x : Float) → T (unsigned v) → ((p : ℕ) (k : ℤ) → v ≡ fin false p k → AtMost (p * up k) (down k) x) → Held v x
by_limit nan x u h = tt
by_limit (inf true) x u h = absurd u
by_limit (inf false) x u h = tt
by_limit (fin true p k) x u h = absurd u
by_limit (fin false p k) x u h = h p k refl

no_limit : (b : Bool) (x : Float) → Held (cond b nan (inf false)) x
no_limit true x = tt
no_limit false x = tt

times_held : (a b x y : Float) → Held a x → Held b y → Held (a ⊗ b) (x ⊗ y)
unfolding mul
times_held nan b x y h l = tt
times_held (inf true) b x y h l = absurd h
times_held (inf false) nan x y h l = tt
times_held (inf false) (inf true) x y h l = absurd l
times_held (inf false) (inf false) x y h l = tt
times_held (inf false) (fin true q j) x y h l = absurd l
times_held (inf false) (fin false q j) x y h l = no_limit (eqb q 0) (x ⊗ y)
times_held (fin true p i) b x y h l = absurd h
times_held (fin false p i) nan x y h l = tt
times_held (fin false p i) (inf true) x y h l = absurd l
times_held (fin false p i) (inf false) x y h l = no_limit (eqb p 0) (x ⊗ y)
times_held (fin false p i) (fin true q j) x y h l = absurd l
times_held (fin false p i) (fin false q j) x y h l =
    let X = p * up i * (q * up j) in
    let Y = down i * down j in
    by_limit (round binary32 false X Y) (x ⊗ y) (unsigned_round binary32 X Y)
    (λ (r : ℕ) (k : ℤ) (e : round binary32 false X Y ≡ fin false r k). mul_at_most x y (p * up i) (down i) (q * up j) (down j) r k (down_pos i) (down_pos j) h l e)

pub times : {a b x y : Float} → Small a x → Small b y → Small (a ⊗ b) (x ⊗ y)
times {a} {b} {x} {y} h l = record { held = times_held a b x y h.held l.held }

plus_held : (a b x y : Float) → Held a x → Held b y → Held (a ⊕ b) (x ⊕ y)
unfolding add
plus_held nan b x y h l = tt
plus_held (inf true) b x y h l = absurd h
plus_held (inf false) nan x y h l = tt
plus_held (inf false) (inf true) x y h l = absurd l
plus_held (inf false) (inf false) x y h l = tt
plus_held (inf false) (fin t q j) x y h l = tt
plus_held (fin true p i) b x y h l = absurd h
plus_held (fin false p i) nan x y h l = tt
plus_held (fin false p i) (inf true) x y h l = absurd l
plus_held (fin false p i) (inf false) x y h l = tt
plus_held (fin false p i) (fin true q j) x y h l = absurd l
plus_held (fin false p i) (fin false q j) x y h l =
    let X = p * up i * down j + q * up j * down i in
    let Y = down i * down j in
    by_limit (round binary32 false X Y) (x ⊕ y) (unsigned_round binary32 X Y)
    (λ (r : ℕ) (k : ℤ) (e : round binary32 false X Y ≡ fin false r k). add_at_most x y (p * up i) (down i) (q * up j) (down j) r k (down_pos i) (down_pos j) h l e)

pub plus : {a b x y : Float} → Small a x → Small b y → Small (a ⊕ b) (x ⊕ y)
plus {a} {b} {x} {y} h l = record { held = plus_held a b x y h.held l.held }

turned_held : (a x : Float) → Held a x → Held a (neg x)
turned_held nan x h = tt
turned_held (inf true) x h = absurd h
turned_held (inf false) x h = tt
turned_held (fin true p k) x h = absurd h
turned_held (fin false p k) x h = neg_at_most x (p * up k) (down k) h

-- a number with no minus sign is its own limit
own_held : (c : Float) → T (unsigned c) → Held c c
own_held nan u = tt
own_held (inf true) u = absurd u
own_held (inf false) u = tt
own_held (fin true p k) u = absurd u
own_held (fin false p k) u = le_refl (p * up k * down k)

pub own : (c : Float) → T (unsigned c) → Small c c
own c u = record { held = own_held c u }

-- a literal's own limit
pub decimal : (n k : ℕ) → Small (dec n k) (dec n k)
decimal n k = own (dec n k) (unsigned_round binary32 n (10 ^ k))

pub turned : {a x : Float} → Small a x → Small a (neg x)
turned {a} {x} h = record { held = turned_held a x h.held }

pub minus : {a b x y : Float} → Small a x → Small b y → Small (a ⊕ b) (x ⊖ y)
unfolding sub
minus h l = plus h (turned l)

-- m / e ≤ p / i and q / j ≤ n / d
quotient_cross : (m e p i q j n d : ℕ) → m * i ≤ p * e → q * d ≤ n * j → m * d * (q * i) ≤ p * j * (n * e)
quotient_cross m e p i q j n d h l =
    le_trans (le_of_eq (simp (mul_assoc, mul_comm, mul_left_comm))) (le_trans (mul-le-mul h l) (le_of_eq (simp (mul_assoc, mul_comm, mul_left_comm))))

-- a divisor that is no zero
pub div_is : (s : Bool) (m : ℕ) (e : ℤ) (t : Bool) (n : ℕ) (d : ℤ) → fin s m e ⊘ fin t (suc n) d ≡ round binary32 (unlike s t) (m * up e * down d) (suc n * up d * down e)
unfolding div
div_is s m e t n d =
    ap (λ (b : Bool). cond b (cond (eqb m 0) nan (inf (unlike s t))) (round binary32 (unlike s t) (m * up e * down d) (suc n * up d * down e))) (eqb-suc-zero n)

over_held : (x y : Float) (p : ℕ) (i : ℤ) (q : ℕ) (j : ℤ) → 0 < q → T (above y) → T (le (fin false q j) y) → AtMost (p * up i) (down i) x
    → Held (round binary32 false (p * up i * down j) (q * up j * down i)) (x ⊘ y)
unfolding div le
over_held nan y p i q j Q a l h = absurd h
over_held (inf s) y p i q j Q a l h = absurd h
over_held (fin s m e) nan p i q j Q a l h = absurd a
over_held (fin s m e) (inf t) p i q j Q a l h =
    let X = p * up i * down j in
    let Y = q * up j * down i in
    by_limit (round binary32 false X Y) (fin (unlike s t) 0 (pos 0)) (unsigned_round binary32 X Y)
    (λ (r : ℕ) (k : ℤ) (e : round binary32 false X Y ≡ fin false r k). zero_at_most (unlike s t) (pos 0) (r * up k) (down k))
over_held (fin s m e) (fin true n d) p i q j Q a l h = absurd a
over_held (fin s m e) (fin false zero d) p i q j Q a l h = absurd a
over_held (fin s m e) (fin false (suc n) d) p i q j Q a l h =
    let X = p * up i * down j in
    let Y = q * up j * down i in
    subst (λ (v : Float). Held (round binary32 false X Y) v) (sym (div_is s m e false n d))
    (by_limit (round binary32 false X Y) (round binary32 (unlike s false) (m * up e * down d) (suc n * up d * down e)) (unsigned_round binary32 X Y)
    (λ (r : ℕ) (k : ℤ) (g : round binary32 false X Y ≡ fin false r k). round_at_most (unlike s false) (m * up e * down d) (suc n * up d * down e) X Y r k
    (mul-pos (mul-pos (zero-lt-suc n) (up_pos d)) (down_pos e)) (mul-pos (mul-pos Q (up_pos j)) (down_pos i))
    (quotient_cross (m * up e) (down e) (p * up i) (down i) (q * up j) (down j) (suc n * up d) (down d) h (lt_or_eq (q * up j * down d) (suc n * up d * down j) l)) g))

quotient_held : (a b x y : Float) → T (positive b) → T (le b y) → Held a x → Held (a ⊘ b) (x ⊘ y)
unfolding div
quotient_held nan b x y B l h = tt
quotient_held (inf true) b x y B l h = absurd h
quotient_held (inf false) nan x y B l h = absurd B
quotient_held (inf false) (inf t) x y B l h = absurd B
quotient_held (inf false) (fin true q j) x y B l h = absurd B
quotient_held (inf false) (fin false q j) x y B l h = tt
quotient_held (fin true p i) b x y B l h = absurd h
quotient_held (fin false p i) nan x y B l h = absurd B
quotient_held (fin false p i) (inf t) x y B l h = absurd B
quotient_held (fin false p i) (fin true q j) x y B l h = absurd B
quotient_held (fin false p i) (fin false zero j) x y B l h = absurd B
quotient_held (fin false p i) (fin false (suc q) j) x y B l h =
    subst (λ (v : Float). Held v (x ⊘ y)) (sym (div_is false p i false q j)) (over_held x y p i (suc q) j (zero-lt-suc q) (above_of_le (fin false (suc q) j) y B l) l h)

pub over : {a b x y : Float} → Small a x → AtLeast b y → Small (a ⊘ b) (x ⊘ y)
over {a} {b} {x} {y} h l = record { held = quotient_held a b x y l.above l.reached h.held }

-- ---- a sum is no smaller than a part of it
pub nothing : (b : Float) → T (unsigned b) → Small b (whole 0)
unfolding round
nothing b u = record { held = by_limit b (whole 0) u (λ (p : ℕ) (k : ℤ) (e : b ≡ fin false p k). zero_at_most false (pos 0) (p * up k) (down k)) }

pub zero_held : (b v : Float) (s : Bool) (e : ℤ) → Held b v → Held b (fin s zero e)
zero_held nan v s e h = tt
zero_held (inf true) v s e h = absurd h
zero_held (inf false) v s e h = tt
zero_held (fin true p k) v s e h = absurd h
zero_held (fin false p k) v s e h = zero_at_most s e (p * up k) (down k)

pub zero_small : {b v : Float} (s : Bool) (e : ℤ) → Small b v → Small b (fin s zero e)
zero_small {b} {v} s e h = record { held = zero_held b v s e h.held }

-- ---- a larger limit
wider_held : (a b x : Float) → T (le a b) → T (unsigned b) → Held a x → Held b x
unfolding le
wider_held nan b x l u h = absurd l
wider_held (inf true) b x l u h = absurd h
wider_held (inf false) nan x l u h = absurd l
wider_held (inf false) (inf true) x l u h = absurd l
wider_held (inf false) (inf false) x l u h = tt
wider_held (inf false) (fin t q j) x l u h = absurd l
wider_held (fin true p i) b x l u h = absurd h
wider_held (fin false p i) nan x l u h = absurd l
wider_held (fin false p i) (inf true) x l u h = absurd l
wider_held (fin false p i) (inf false) x l u h = tt
wider_held (fin false p i) (fin true q j) x l u h = absurd u
wider_held (fin false p i) (fin false q j) x l u h = widened x (p * up i) (down i) (q * up j) (down j) (down_pos i) (lt_or_eq (p * up i * down j) (q * up j * down i) l) h

-- a -0 is not below +0, and is no limit
pub wider : {a x : Float} (b : Float) → T (le a b && unsigned b) → Small a x → Small b x
wider {a} {x} b l h = record { held = wider_held a b x (and_l (le a b) (unsigned b) l) (and_r (le a b) (unsigned b) l) h.held }

-- finite, with no minus sign
abbrev pub plain : Float → Bool
plain nan = false
plain (inf s) = false
plain (fin s m e) = not s

minus_under : (a b : ℕ) → T (ltb 0 (a + b) || (eqb a b && eqb a 0))
minus_under zero zero = tt
minus_under zero (suc b) = rw (lt-ltb 0 (0 + suc b) (omega arith)) tt
minus_under (suc a) b = rw (lt-ltb 0 (suc a + b) (omega arith)) tt

at_most_le : (x : Float) (q : ℕ) (j : ℤ) → AtMost (q * up j) (down j) x → T (le x (fin false q j))
unfolding le
at_most_le nan q j h = absurd h
at_most_le (inf s) q j h = absurd h
at_most_le (fin true m e) q j h = minus_under (m * up e * down j) (q * up j * down e)
at_most_le (fin false m e) q j h = le_of_values (fin false m e) (fin false q j) (m * up e) (down e) (q * up j) (down j) (down_pos e) (down_pos j) (refl, refl) (refl, refl) h

held_le : (c x : Float) → T (plain c) → Held c x → T (le x c)
held_le nan x f h = absurd f
held_le (inf s) x f h = absurd f
held_le (fin true q j) x f h = absurd f
held_le (fin false q j) x f h = at_most_le x q j h

plain_unsigned : (c : Float) → T (plain c) → T (unsigned c)
plain_unsigned nan f = tt
plain_unsigned (inf s) f = absurd f
plain_unsigned (fin s m e) f = f

-- under an infinite limit x may be a NaN, which is below nothing
pub most : {a x : Float} (c : Float) → T (le a c && plain c) → Small a x → T (le x c)
most {a} {x} c l h = let f = and_r (le a c) (plain c) l in held_le c x f (wider_held a c x (and_l (le a c) (plain c) l) (plain_unsigned c f) h.held)

strict_cross : (m e p i q j : ℕ) → 0 < e → m * i ≤ p * e → p * j < q * i → m * j < q * e
strict_cross m e p i q j E h l =
    lt_of_mul-lt-mul_right i
    (lt_of_le_of_lt (le_trans (le_of_eq (mul_right_comm m j i)) (le_trans (mul-le-mul_right j h) (le_of_eq (mul_right_comm p e j))))
    (lt_of_lt_of_le (mul-lt-mul_of_pos_right l E) (le_of_eq (mul_right_comm q i e))))

sum_over_lem : (a b c : ℕ) → c < b → 0 < a + b
sum_over_lem a b c h = omega arith

under_fin : (x : Float) (p : ℕ) (i : ℤ) (q : ℕ) (j : ℤ) → p * up i * down j < q * up j * down i → AtMost (p * up i) (down i) x → T (lt x (fin false q j))
unfolding lt
under_fin nan p i q j l h = absurd h
under_fin (inf s) p i q j l h = absurd h
under_fin (fin s m e) p i q j l h = go s (strict_cross (m * up e) (down e) (p * up i) (down i) (q * up j) (down j) (down_pos e) h l)
  where
    go : (s : Bool) → m * up e * down j < q * up j * down e → T (below s (m * up e * down j) false (q * up j * down e))
    go true g = lt→ltb 0 (m * up e * down j + q * up j * down e) (sum_over_lem (m * up e * down j) (q * up j * down e) (m * up e * down j) g)
    go false g = lt→ltb (m * up e * down j) (q * up j * down e) g

under_top : (x : Float) (n d : ℕ) (t : Bool) → T (not t) → AtMost n d x → T (lt x (inf t))
unfolding lt
under_top nan n d t l h = absurd h
under_top (inf s) n d t l h = absurd h
under_top (fin s m e) n d t l h = l

held_lt : (a c x : Float) → T (lt a c) → Held a x → T (lt x c)
unfolding lt
held_lt nan c x l h = absurd l
held_lt (inf true) c x l h = absurd h
held_lt (inf false) nan x l h = absurd l
held_lt (inf false) (inf t) x l h = absurd l
held_lt (inf false) (fin t q j) x l h = absurd l
held_lt (fin true p i) c x l h = absurd h
held_lt (fin false p i) nan x l h = absurd l
held_lt (fin false p i) (inf t) x l h = under_top x (p * up i) (down i) t l h
held_lt (fin false p i) (fin true q j) x l h = absurd l
held_lt (fin false p i) (fin false q j) x l h = under_fin x p i q j (ltb→lt (p * up i * down j) (q * up j * down i) l) h

-- what is below c is finite
pub under : {a x : Float} (c : Float) → T (lt a c) → Small a x → T (lt x c)
under {a} {x} c l h = held_lt a c x l h.held

le_held : (x c : Float) → T (not (under_zero x)) → T (unsigned c) → T (le x c) → Held c x
le_held x nan u f l = tt
le_held x (inf true) u f l = absurd f
le_held x (inf false) u f l = tt
le_held x (fin true p k) u f l = absurd f
le_held x (fin false p k) u f l = le_at_most x p k u l

pub compared : (x c : Float) → T (not (under_zero x)) → T (unsigned c) → T (le x c) → Small c x
compared x c u f l = record { held = le_held x c u f l }

-- ---- what is at least a limit
over_zero : {a x : Float} → AtLeast a x → T (above x)
over_zero {a} {x} h = above_of_le a x h.above h.reached

no_minus : (x : Float) → T (above x) → T (not (under_zero x))
no_minus nan h = absurd h
no_minus (inf s) h = h
no_minus (fin true m e) h = absurd h
no_minus (fin false zero e) h = tt
no_minus (fin false (suc m) e) h = tt

pub not_under : {a x : Float} → AtLeast a x → T (not (under_zero x))
not_under {a} {x} h = no_minus x (over_zero h)

no_below : (m : ℕ) (e : ℤ) → ltb (m * up e * 1) (0 * 1 * down e) ≡ false
no_below m e = le-ltb (m * up e * 1) (0 * 1 * down e) (le_trans (le_of_eq (zero-mul (down e))) zero-le)

not_below : (x : Float) → T (above x) → lt x (whole 0) ≡ false
unfolding lt round
not_below nan h = absurd h
not_below (inf true) h = absurd h
not_below (inf false) h = refl
not_below (fin true m e) h = absurd h
not_below (fin false m e) h = no_below m e

pub not_negative : {a x : Float} → AtLeast a x → lt x (whole 0) ≡ false
not_negative {a} {x} h = not_below x (over_zero h)

beyond_top : (v : Float) → T (positive v) → T (le v (inf false))
unfolding le
beyond_top nan p = absurd p
beyond_top (inf s) p = absurd p
beyond_top (fin s m e) p = tt

lowered_le : (b a x : Float) → T (positive b) → T (positive a) → T (above x) → T (le b a) → T (le a x) → T (le b x)
lowered_le b a nan p q h l k = absurd h
lowered_le b a (inf true) p q h l k = absurd h
lowered_le b a (inf false) p q h l k = beyond_top b p
lowered_le b a (fin true m e) p q h l k = absurd h
lowered_le b a (fin false m e) p q h l k = le_trans_positive b a (fin false m e) p q h l k

pub lowered : {a x : Float} (b : Float) → T (positive b) → T (le b a) → AtLeast a x → AtLeast b x
lowered {a} {x} b p l h = record { above = p; reached = lowered_le b a x p h.above (over_zero h) l h.reached }

raised_le : (a x z : Float) → T (positive a) → T (above x) → T (le a x) → T (le x z) → T (le a z)
unfolding le
raised_le a nan z p h l k = absurd h
raised_le a (inf true) z p h l k = absurd h
raised_le a (inf false) nan p h l k = absurd k
raised_le a (inf false) (inf true) p h l k = absurd k
raised_le a (inf false) (inf false) p h l k = l
raised_le a (inf false) (fin t n d) p h l k = absurd k
raised_le a (fin true m e) z p h l k = absurd h
raised_le a (fin false m e) z p h l k = lowered_le a (fin false m e) z p h (above_of_le (fin false m e) z h k) l k

pub raised : {a x z : Float} → T (le x z) → AtLeast a x → AtLeast a z
raised {a} {x} {z} k h = record { above = h.above; reached = raised_le a x z h.above (over_zero h) h.reached k }

-- ---- a sum, a difference and a product that are at least a limit
turned_down : (v : Float) → T (unsigned v) → T (positive (neg v)) → ⊥
unfolding neg
turned_down nan u p = p
turned_down (inf s) u p = p
turned_down (fin true m e) u p = u
turned_down (fin false m e) u p = p

difference_is : (A B C : ℕ) → B ≤ A → sum binary32 false A true B C ≡ round binary32 false (A - B) C
unfolding sum
difference_is A B C h = rw (le-ltb A B h)

in_order : (A B C : ℕ) → T (positive (sum binary32 false A true B C)) → B ≤ A
unfolding sum
in_order A B C p = go (ltb A B) (nltb→le A B) p
  where
    go : (b : Bool) → (T (not b) → B ≤ A) → T (positive (cond b (round binary32 true (B - A) C) (round binary32 false (A - B) C))) → B ≤ A
    go true h p =
        absurd (turned_down (round binary32 false (B - A) C) (unsigned_round binary32 (B - A) C)
        (subst (λ (v : Float). T (positive v)) (round_neg binary32 false (B - A) C) p))
    go false h p = h tt

sub_sub : (a b x y : ℕ) → a ≤ x → y ≤ b → a - b ≤ x - y
sub_sub a b x y h l = omega arith

sub_cross : (A B C X Y D : ℕ) → A * D ≤ X * C → Y * C ≤ B * D → (A - B) * D ≤ (X - Y) * C
sub_cross A B C X Y D h l =
    le_trans (le_of_eq (mul_comm (A - B) D ∙ mul-sub D A B ∙ ap (λ (z : ℕ). z - D * B) (mul_comm D A) ∙ ap (λ (z : ℕ). A * D - z) (mul_comm D B)))
    (le_trans (sub_sub (A * D) (B * D) (X * C) (Y * C) h l)
    (le_of_eq (sym (mul_comm (X - Y) C ∙ mul-sub C X Y ∙ ap (λ (z : ℕ). z - C * Y) (mul_comm C X) ∙ ap (λ (z : ℕ). X * C - z) (mul_comm C Y)))))

less : (x y : ℕ) → x - y ≤ x + y
less x y = omega arith

sum_is : (X Y D : ℕ) → sum binary32 false X false Y D ≡ round binary32 false (X + Y) D
unfolding sum
sum_is X Y D = refl

sum_reaches : (t : Bool) (A B C X Y D : ℕ) → 0 < C → 0 < D → T (positive (sum binary32 false A true B C)) → A * D ≤ X * C → Y * C ≤ B * D
    → T (le (sum binary32 false A true B C) (sum binary32 false X t Y D))
sum_reaches t A B C X Y D P Q p h l =
    let b = in_order A B C p in
    rw (difference_is A B C b) (go t)
  where
    go : (t : Bool) → T (le (round binary32 false (A - B) C) (sum binary32 false X t Y D))
    go true =
        rw (difference_is X Y D (le_of_mul-le-mul_right (le_trans l (le_trans (mul-le-mul_right D (in_order A B C p)) h)) P))
        (round_mono binary32 (A - B) C (X - Y) D P Q (sub_cross A B C X Y D h l))
    go false = rw (sum_is X Y D) (round_mono binary32 (A - B) C (X + Y) D P Q (le_trans (sub_cross A B C X Y D h l) (mul-le-mul_right C (less X Y))))

-- p / i ≤ m / e, and n / d ≤ q / j
far_cross : (p i m e j d : ℕ) → p * e ≤ m * i → p * j * (e * d) ≤ m * d * (i * j)
far_cross p i m e j d h =
    le_trans (le_of_eq (simp (mul_assoc, mul_comm, mul_left_comm))) (le_trans (mul-le-mul_right (j * d) h) (le_of_eq (simp (mul_assoc, mul_comm, mul_left_comm))))

near_cross : (n d q j e i : ℕ) → n * j ≤ q * d → n * e * (i * j) ≤ q * i * (e * d)
near_cross n d q j e i h =
    le_trans (le_of_eq (simp (mul_assoc, mul_comm, mul_left_comm))) (le_trans (mul-le-mul_right (e * i) h) (le_of_eq (simp (mul_assoc, mul_comm, mul_left_comm))))

sum_at : (p : ℕ) (i : ℤ) (q : ℕ) (j : ℤ) (x y : Float) → T (positive (fin false p i ⊖ fin false q j)) → T (above x) → T (le (fin false p i) x) → AtMost (q * up j) (down j) y
    → T (le (fin false p i ⊖ fin false q j) (x ⊕ y))
unfolding sub le
sum_at p i q j x nan P a l h = absurd h
sum_at p i q j x (inf t) P a l h = absurd h
sum_at p i q j nan (fin t n d) P a l h = absurd a
sum_at p i q j (inf true) (fin t n d) P a l h = absurd a
sum_at p i q j (inf false) (fin t n d) P a l h = beyond_top (fin false p i ⊖ fin false q j) P
sum_at p i q j (fin true m e) (fin t n d) P a l h = absurd a
sum_at p i q j (fin false m e) (fin t n d) P a l h =
    sum_reaches t (p * up i * down j) (q * up j * down i) (down i * down j) (m * up e * down d) (n * up d * down e) (down e * down d)
    (mul-pos (down_pos i) (down_pos j)) (mul-pos (down_pos e) (down_pos d)) P
    (far_cross (p * up i) (down i) (m * up e) (down e) (down j) (down d) (lt_or_eq (p * up i * down e) (m * up e * down i) l))
    (near_cross (n * up d) (down d) (q * up j) (down j) (down e) (down i) h)

least_at : (a b x y : Float) → T (positive (a ⊖ b)) → T (positive a) → T (above x) → T (le a x) → Held b y → T (le (a ⊖ b) (x ⊕ y))
least_at nan b x y P p a l h = absurd p
least_at (inf s) b x y P p a l h = absurd p
least_at (fin true m i) b x y P p a l h = absurd p
least_at (fin false m i) nan x y P p a l h = absurd (unfold sub in P)
least_at (fin false m i) (inf true) x y P p a l h = absurd h
least_at (fin false m i) (inf false) x y P p a l h = absurd (unfold sub in P)
least_at (fin false m i) (fin true q j) x y P p a l h = absurd h
least_at (fin false m i) (fin false q j) x y P p a l h = sum_at m i q j x y P a l h

pub least_sum : {a b x y : Float} → T (positive (a ⊖ b)) → AtLeast a x → Small b y → AtLeast (a ⊖ b) (x ⊕ y)
least_sum {a} {b} {x} {y} p h l = record { above = p; reached = least_at a b x y p h.above (over_zero h) h.reached l.held }

pub sum_least : {a b x y : Float} → T (positive (a ⊖ b)) → AtLeast a x → Small b y → AtLeast (a ⊖ b) (y ⊕ x)
sum_least {a} {b} {x} {y} p h l = subst (λ (v : Float). AtLeast (a ⊖ b) v) (add_swap binary32 x y) (least_sum p h l)

less_is : (x y : Float) → x ⊕ neg y ≡ x ⊖ y
unfolding sub
less_is x y = refl

pub least_difference : {a b x y : Float} → T (positive (a ⊖ b)) → AtLeast a x → Small b y → AtLeast (a ⊖ b) (x ⊖ y)
least_difference {a} {b} {x} {y} p h l = subst (λ (v : Float). AtLeast (a ⊖ b) v) (less_is x y) (least_sum p h (turned l))

tops : inf false ⊗ inf false ≡ inf false
unfolding mul
tops = refl

top_times : (n : ℕ) (d : ℤ) → inf false ⊗ fin false (suc n) d ≡ inf false
unfolding mul
top_times n d = ap (λ (b : Bool). cond b nan (inf false)) (eqb-suc-zero n)

product_at : (a b x y : Float) → T (positive (a ⊗ b)) → T (positive a) → T (positive b) → T (above x) → T (above y) → T (le a x) → T (le b y) → T (le (a ⊗ b) (x ⊗ y))
product_at a b nan y P p q f g l k = absurd f
product_at a b (inf true) y P p q f g l k = absurd f
product_at a b (inf false) nan P p q f g l k = absurd g
product_at a b (inf false) (inf true) P p q f g l k = absurd g
product_at a b (inf false) (inf false) P p q f g l k = subst (λ (v : Float). T (le (a ⊗ b) v)) (sym tops) (beyond_top (a ⊗ b) P)
product_at a b (inf false) (fin true n d) P p q f g l k = absurd g
product_at a b (inf false) (fin false zero d) P p q f g l k = absurd g
product_at a b (inf false) (fin false (suc n) d) P p q f g l k = subst (λ (v : Float). T (le (a ⊗ b) v)) (sym (top_times n d)) (beyond_top (a ⊗ b) P)
product_at a b (fin true m e) y P p q f g l k = absurd f
product_at a b (fin false m e) nan P p q f g l k = absurd g
product_at a b (fin false m e) (inf true) P p q f g l k = absurd g
product_at a b (fin false zero e) (inf false) P p q f g l k = absurd f
product_at a b (fin false (suc m) e) (inf false) P p q f g l k =
    subst (λ (v : Float). T (le (a ⊗ b) v)) (sym (top_times m e) ∙ mul_swap binary32 (inf false) (fin false (suc m) e)) (beyond_top (a ⊗ b) P)
product_at a b (fin false m e) (fin true n d) P p q f g l k = absurd g
product_at a b (fin false m e) (fin false n d) P p q f g l k = mul_mono binary32 a (fin false m e) b (fin false n d) p f q g l k

pub least_product : {a b x y : Float} → T (positive (a ⊗ b)) → AtLeast a x → AtLeast b y → AtLeast (a ⊗ b) (x ⊗ y)
least_product {a} {b} {x} {y} p h l = record { above = p; reached = product_at a b x y p h.above l.above (over_zero h) (over_zero l) h.reached l.reached }

-- ---- quotients by what is above zero
pub not_both : (v : Float) → T (unsigned v) → T (le (whole 1) v) → T (lt v (whole 1)) → ⊥
unfolding le round
not_both nan u l h = h
not_both (inf true) u l h = u
not_both (inf false) u l h = h
not_both (fin true m e) u l h = u
not_both (fin false m e) u l h = not-le_of_lt (ltb→lt (m * up e * 1) (1 * 1 * down e) h) (lt_or_eq (1 * 1 * down e) (m * up e * 1) l)

-- a fraction of 1 or more is not rounded below 1
below_one : (a c : ℕ) → 0 < c → T (lt (round binary32 false a c) (whole 1)) → a ≤ c
below_one a c C h =
    le_of_suc-le-suc (lt_of_not-le (λ (g : suc c ≤ a). not_both (round binary32 false a c) (unsigned_round binary32 a c)
    (round_mono binary32 1 1 a c (zero-lt-suc 0) C (le_trans (le_of_eq (one-mul c)) (le_trans (le_of_lt g) (le_of_eq (sym (mul-one a)))))) h))

no_quotient : (x : Float) → T (lt (nan ⊘ x) (whole 1)) → ⊥
unfolding div lt
no_quotient x h = h

top_quotient : (n : ℕ) (d : ℤ) → T (lt (inf false ⊘ fin false n d) (whole 1)) → ⊥
unfolding div lt
top_quotient n d h = h

pub quotient_under : (y x : Float) → T (not (under_zero y)) → T (positive x) → T (lt (y ⊘ x) (whole 1)) → AtMost (num x) (den x) y
quotient_under y nan u p h = absurd p
quotient_under y (inf t) u p h = absurd p
quotient_under y (fin true n d) u p h = absurd p
quotient_under y (fin false zero d) u p h = absurd p
quotient_under nan (fin false (suc n) d) u p h = absurd (no_quotient (fin false (suc n) d) h)
quotient_under (inf true) (fin false (suc n) d) u p h = absurd u
quotient_under (inf false) (fin false (suc n) d) u p h = absurd (top_quotient (suc n) d h)
quotient_under (fin s zero e) (fin false (suc n) d) u p h = zero_at_most s e (suc n * up d) (down d)
quotient_under (fin true (suc m) e) (fin false (suc n) d) u p h = absurd u
quotient_under (fin false (suc m) e) (fin false (suc n) d) u p h =
    below_one (suc m * up e * down d) (suc n * up d * down e) (mul-pos (mul-pos (zero-lt-suc n) (up_pos d)) (down_pos e))
    (subst (λ (v : Float). T (lt v (whole 1))) (div_is false (suc m) e false n d) h)

-- 1 / s is rounded to at most 2 / s
reciprocal : (n : ℕ) (d : ℤ) → T (le (whole 1) (fin false (suc n) d)) → AtMost (down d * 2) (suc n * up d) (whole 1 ⊘ fin false (suc n) d)
unfolding round le
reciprocal n d l =
    let Y = suc n * up d in
    let r = round_twice (1 * 1 * down d) (Y * 1) (mul-pos (mul-pos (zero-lt-suc n) (up_pos d)) (zero-lt-suc 0)) false (lt_or_eq (1 * 1 * down d) (Y * 1) l) in
    subst (λ (v : Float). AtMost (down d * 2) Y v) (sym (div_is false 1 (pos 0) false n d))
    (subst (λ (z : ℕ). AtMost (z * 2) Y (round binary32 false (1 * 1 * down d) (Y * 1))) (one-mul (down d))
    (subst (λ (z : ℕ). AtMost (1 * 1 * down d * 2) z (round binary32 false (1 * 1 * down d) (Y * 1))) (mul-one Y) r))

times_four : (a b : ℕ) → a * 2 * (b * 2) * 1 ≡ 4 * (b * a)
times_four a b = mul-one (a * 2 * (b * 2)) ∙ mul-mul-mul_comm a 2 b 2 ∙ mul_comm (a * b) 4 ∙ ap (λ (z : ℕ). 4 * z) (mul_comm a b)

four_is : (a b : ℕ) → 0 < a → 0 < b → round binary32 false (a * 2 * (b * 2)) (b * a) ≡ fin false 1 (pos 2)
unfolding round
four_is a b A B = round_same binary32 false (a * 2 * (b * 2)) (b * a) 4 1 (mul-pos B A) (zero-lt-suc 0) (times_four a b)

four_times : (x : Float) (n : ℕ) (d : ℤ) → T (le (whole 1) (fin false (suc n) d)) → AtMost (suc n * up d * 2) (down d) x → Held (whole 4) (x ⊗ (whole 1 ⊘ fin false (suc n) d))
unfolding round
four_times x n d l h =
    let N = mul-pos (zero-lt-suc n) (up_pos d) in
    mul_at_most x (whole 1 ⊘ fin false (suc n) d) (suc n * up d * 2) (down d) (down d * 2) (suc n * up d) 1 (pos 2) (down_pos d) N h
    (reciprocal n d l) (four_is (suc n * up d) (down d) N (down_pos d))

pub over_itself : (x s : Float) → T (positive s) → T (le (whole 1) s) → AtMost (num s * 2) (den s) x → Small (whole 4) (x ⊗ (whole 1 ⊘ s))
over_itself x nan p l h = absurd p
over_itself x (inf t) p l h = absurd p
over_itself x (fin true n d) p l h = absurd p
over_itself x (fin false zero d) p l h = absurd p
over_itself x (fin false (suc n) d) p l h = record { held = four_times x n d l h }

-- ---- one more, and the sign of a quotient
more_than_one : (m : ℕ) (e : ℤ) → T (le (whole 1) (whole 1 ⊕ fin false m e))
unfolding add round
more_than_one m e = round_mono binary32 1 1 (1 * 1 * down e + m * up e * 1) (1 * down e) (zero-lt-suc 0) (mul-pos (zero-lt-suc 0) (down_pos e)) (omega arith)

one_more_le : (x : Float) → T (above x) → T (le (whole 1) (whole 1 ⊕ x))
unfolding add round le
one_more_le nan h = absurd h
one_more_le (inf true) h = absurd h
one_more_le (inf false) h = tt
one_more_le (fin true m e) h = absurd h
one_more_le (fin false m e) h = more_than_one m e

pub one_more_lem : {a x : Float} → AtLeast a x → AtLeast (whole 1) (whole 1 ⊕ x)
unfolding round
one_more_lem {a} {x} h = record { above = tt; reached = one_more_le x (over_zero h) }

pub no_minus_over : (x y : Float) → T (unsigned x) → T (above y) → T (not (under_zero (x ⊘ y)))
unfolding div
no_minus_over nan y f g = tt
no_minus_over (inf true) y f g = absurd f
no_minus_over (inf false) nan f g = absurd g
no_minus_over (inf false) (inf true) f g = absurd g
no_minus_over (inf false) (inf false) f g = tt
no_minus_over (inf false) (fin true n d) f g = absurd g
no_minus_over (inf false) (fin false n d) f g = tt
no_minus_over (fin true m e) y f g = absurd f
no_minus_over (fin false m e) nan f g = absurd g
no_minus_over (fin false m e) (inf true) f g = absurd g
no_minus_over (fin false m e) (inf false) f g = tt
no_minus_over (fin false m e) (fin true n d) f g = absurd g
no_minus_over (fin false m e) (fin false zero d) f g = absurd g
no_minus_over (fin false m e) (fin false (suc n) d) f g =
    subst (λ (v : Float). T (not (under_zero v))) (sym (div_is false m e false n d))
    (of_unsigned (round binary32 false (m * up e * down d) (suc n * up d * down e)) (unsigned_round binary32 (m * up e * down d) (suc n * up d * down e)))

above_unsigned : (x : Float) → T (above x) → T (unsigned x)
above_unsigned nan h = tt
above_unsigned (inf s) h = h
above_unsigned (fin true m e) h = absurd h
above_unsigned (fin false m e) h = tt

pub not_under_over : {a b x y : Float} → AtLeast a x → AtLeast b y → T (not (under_zero (x ⊘ y)))
not_under_over {a} {b} {x} {y} h l = no_minus_over x y (above_unsigned x (over_zero h)) (over_zero l)

either : (a b : Bool) → T a → T (a || b)
either true b h = tt
either false b h = absurd h

-- what is below a limit is below a larger one
pub below_limit : (x a c : Float) → T (not (under_zero x)) → T (unsigned a) → T (lt x a) → T (lt a c) → T (lt x c)
below_limit x a c u f h l = under c l (compared x a u f (unfold le in either (lt x a) (eq x a) h))

-- a limit above zero, as a fraction
pub at_fraction : (s x : Float) → T (positive s) → Held s x → AtMost (num s) (den s) x
at_fraction nan x p h = absurd p
at_fraction (inf t) x p h = absurd p
at_fraction (fin true m e) x p h = absurd p
at_fraction (fin false m e) x p h = h

pub of_fraction : (s x : Float) → T (positive s) → AtMost (num s) (den s) x → Held s x
of_fraction nan x p h = absurd p
of_fraction (inf t) x p h = absurd p
of_fraction (fin true m e) x p h = absurd p
of_fraction (fin false m e) x p h = h

pub positive_above : (x : Float) → T (positive x) → T (above x)
positive_above nan p = absurd p
positive_above (inf s) p = absurd p
positive_above (fin true m e) p = absurd p
positive_above (fin false m e) p = p

pub positive_unsigned : (x : Float) → T (positive x) → T (unsigned x)
positive_unsigned x p = above_unsigned x (positive_above x p)
