-- A float below 2 ^ 23 as a whole number, by a sum with 2 ^ 23; and the sign put back. Assumes nothing.
use Rattle.std.proofs.Common.{◌≡◌, ℕ, zero, suc, ◌+◌, ◌-◌, ◌*◌, ◌/◌, ◌<◌, ◌≤◌, min, Bool, true, false, cond, not, T, ℤ, pos, neg_ℤ, sym, refl, ap, ◌∙◌, subst, le_trans, le_of_eq, lt_of_le_of_lt, zero-lt-suc, div-lt_iff_lt-mul, zero-mul, mul-one, sub-add_cancel, arith, lit<, lit≤, ltb→lt, nltb→le}
use lib.Ieee.{Float, nan, inf, fin, binary32, up, down, round, neg, add, sub, lt, fits, of_int, to_signed, to_unsigned, in_unsigned}
use lib.Ieee.Fits.{down_pos}
use lib.Ieee.Exact.{HasValue}
use lib.Ieee.Nearest.{closest}
use lib.Ieee.Back.{round_whole, unsigned_back}
use Rattle.laws.specs.Dyadic.{add_value}
use Rattle.numbers.specs.Words.{sign_of, signed, abs_of}
use Rattle.numbers.specs.Whole.{quot, whole_of}
use Rattle.numbers.proofs.Bits.{yes, no, zeroed, positive}
use Rattle.numbers.proofs.Integers.{small_exact, uncapped}
use Rattle.numbers.proofs.Nearest.{closest_small, round_closest, closest_large, above, below, sub_whole, lt_values, is_quot, is_quot_up}
use Rattle.numbers.specs.WholeLaws.{whole_signed, quot_more, quot_same, quot_le, small, whole_large, whole_neg, whole_signed_lem}

abbrev pub limit : Float
limit = fin false 1 (pos 23)

-- ---- the whole number next to a
abbrev pub near_to : Float → Float
near_to a = sub binary32 (add binary32 a limit) limit

-- a is num / den, and near_to a is the whole number n, less than 1 away
record Near (a : Float) : Type 0 where
  num : ℕ
  den : ℕ
  n : ℕ
  some : 0 < den
  value : HasValue a false num den
  whole : (u : Bool) → whole_of u a ≡ round binary32 false (quot u num den) 1
  is : near_to a ≡ round binary32 false n 1
  small : n ≤ 8388608
  above : n * den < num + den
  below : num < n * den + den

under : (m : ℕ) (e : ℤ) → T (lt (fin false m e) limit) → m * up e < 8388608 * down e
unfolding lt
under m e h = subst (λ (z : ℕ). z < 8388608 * down e) (mul-one (m * up e)) (ltb→lt (m * up e * 1) (8388608 * down e) h)

-- a / d and 2 ^ 23, as `add_value` has the sum
record Moved (a d : ℕ) : Type 0 where
  pos : 0 < d * 1
  low : 8388608 * (d * 1) ≤ a * 1 + 8388608 * d
  high : a * 1 + 8388608 * d < 16777216 * (d * 1)

moved : (a d : ℕ) → 0 < d → a < 8388608 * d → Moved a d
moved a d D h = record { pos = omega arith; low = omega arith; high = omega arith }

back : (a d n : ℕ) → (n + 8388608) * (d * 1) < a * 1 + 8388608 * d + d * 1 → a * 1 + 8388608 * d < (n + 8388608 + 1) * (d * 1) → (n * d < a + d) × (a < n * d + d)
back a d n h k = (omega arith, omega arith)

within : (n : ℕ) → n + 8388608 ≤ 16777216 → n ≤ 8388608
within n h = omega arith

near_fin : (m : ℕ) (e : ℤ) → m * up e < 8388608 * down e → Near (fin false m e)
near_fin m e h =
    let a = m * up e in
    let d = down e in
    let c = moved a d (down_pos e) h in
    let N = a * 1 + 8388608 * d in
    let w = closest N (d * 1) in
    let n = w - 8388608 in
    let q : n + 8388608 ≡ w = sub-add_cancel (closest_large N (d * 1) c.pos c.low c.high) in
    let s = subst (λ (x : Float). HasValue x false (n + 8388608) 1) (sym (add_value binary32 (fin false m e) limit false a d 8388608 1 (down_pos e) (zero-lt-suc 0) (refl, refl) (refl, refl)))
    (subst (λ (z : ℕ). HasValue (round binary32 false N (d * 1)) false z 1) (sym q) (round_closest N (d * 1) c.pos c.low c.high)) in
    let b = back a d n (subst (λ (z : ℕ). z * (d * 1) < N + d * 1) (sym q) (above N (d * 1) c.pos)) (subst (λ (z : ℕ). N < (z + 1) * (d * 1)) (sym q) (below N (d * 1) c.pos)) in
    record {
      num = a;
      den = d;
      n = n;
      some = down_pos e;
      value = (refl, refl);
      whole = λ u. unfold whole_of in refl;
      is = sub_whole (add binary32 (fin false m e) limit) limit n 8388608 s (refl, refl);
      small = within n (le_trans (le_of_eq q) (closest_small N (d * 1) c.pos c.low c.high));
      above = b.0;
      below = b.1;
    }

no_nan : T (lt nan limit) → ⊥
unfolding lt
no_nan h = h

no_inf : T (lt (inf false) limit) → ⊥
unfolding lt
no_inf h = h

near : (a : Float) → T (not (sign_of a)) → T (lt a limit) → Near a
unfolding sign_of
near nan s h = absurd (no_nan h)
near (inf true) s h = absurd s
near (inf false) s h = absurd (no_inf h)
near (fin true m e) s h = absurd s
near (fin false m e) s h = near_fin m e (under m e h)

one_up : (n a d : ℕ) → 0 < d → n * d < a * 1 → a < n * d + d → n * 1 + 1 * 1 ≡ quot true a d
one_up n a d D h l = is_quot_up a d (n * 1 + 1 * 1) D (omega arith) (omega arith)

nothing : (a z : ℕ) → z ≡ 0 → a < z → ⊥
nothing a z p h = omega arith

one_down : (n a d : ℕ) → 0 < d → a * 1 < n * d → n * d < a + d → (n - 1 + 1 ≡ n) × (n - 1 ≡ a / d)
one_down zero a d D h l = absurd (nothing (a * 1) (0 * d) (zero-mul d) h)
one_down (suc k) a d D h l = (omega arith, less k ∙ is_quot a d k D (omega arith) (omega arith))
  where
    less : (k : ℕ) → suc k - 1 ≡ k
    less k = omega arith

abbrev one : Float
one = fin false 1 (pos 0)

module _ (a : Float) (s : T (not (sign_of a))) (h : T (lt a limit)) where
  r : Near a
  r = near a s h

  value : HasValue (near_to a) false r.n 1
  value = subst (λ (y : Float). HasValue y false r.n 1) (sym r.is) (round_whole binary32 false r.n (le_trans r.small (lit≤ tt)))

  becomes : (u : Bool) (y : Float) (k : ℕ) → y ≡ round binary32 false k 1 → k ≡ quot u r.num r.den → y ≡ whole_of u a
  becomes u y k p q = p ∙ ap (λ (z : ℕ). round binary32 false z 1) q ∙ sym (r.whole u)

  pub raised : T (lt (near_to a) a) → add binary32 (near_to a) one ≡ whole_of true a
  raised t = becomes true (add binary32 (near_to a) one) (r.n * 1 + 1 * 1) (add_value binary32 (near_to a) one false r.n 1 1 1 (zero-lt-suc 0) (zero-lt-suc 0) value (refl, refl))
      (one_up r.n r.num r.den r.some ((lt_values (near_to a) a r.n 1 r.num r.den (zero-lt-suc 0) r.some value r.value).0 t) r.below)

  pub high_enough : T (not (lt (near_to a) a)) → near_to a ≡ whole_of true a
  high_enough t = becomes true (near_to a) r.n r.is
      (is_quot_up r.num r.den r.n r.some (le_trans (le_of_eq (sym (mul-one r.num))) ((lt_values (near_to a) a r.n 1 r.num r.den (zero-lt-suc 0) r.some value r.value).1 t)) r.above)

  pub lowered : T (lt a (near_to a)) → sub binary32 (near_to a) one ≡ whole_of false a
  lowered t =
      let k = one_down r.n r.num r.den r.some ((lt_values a (near_to a) r.num r.den r.n 1 r.some (zero-lt-suc 0) r.value value).0 t) r.above in
      becomes false (sub binary32 (near_to a) one) (r.n - 1) (sub_whole (near_to a) one (r.n - 1) 1 (subst (λ (z : ℕ). HasValue (near_to a) false z 1) (sym k.0) value) (refl, refl)) k.1

  pub low_enough : T (not (lt a (near_to a))) → near_to a ≡ whole_of false a
  low_enough t = becomes false (near_to a) r.n r.is
      (is_quot r.num r.den r.n r.some (le_trans ((lt_values a (near_to a) r.num r.den r.n 1 r.some (zero-lt-suc 0) r.value value).1 t) (le_of_eq (mul-one r.num))) r.below)

-- ---- the same as an integer
cut : (a : Float) → T (not (sign_of a)) → T (lt a limit) → (to_unsigned 32 a ≤ 8388608) × (whole_of false a ≡ of_int binary32 (pos (to_unsigned 32 a)))
unfolding sign_of of_int to_unsigned whole_of
cut nan s h = absurd (no_nan h)
cut (inf true) s h = absurd s
cut (inf false) s h = absurd (no_inf h)
cut (fin true m e) s h = absurd s
cut (fin false m e) s h = let u = uncapped (m * up e / down e) ((div-lt_iff_lt-mul (down_pos e)).1 (under m e h)) in (u.0, ap (λ (z : ℕ). round binary32 false z 1) u.1)
  where
    uncapped : (q : ℕ) → q < 8388608 → (min q 4294967295 ≤ 8388608) × (q ≡ min q 4294967295)
    uncapped q h = (omega arith, omega arith)

pub record Cast (a y : Float) : Type 0 where
  pub whole : T (in_unsigned binary32 32 y)
  pub count : to_unsigned 32 y ≡ to_unsigned 32 a
  pub value : y ≡ of_int binary32 (pos (to_unsigned 32 a))

pub as_unsigned : (a y : Float) → T (lt zeroed a) → T (lt a limit) → y ≡ whole_of false a → Cast a y
as_unsigned a y l h p =
    let n = to_unsigned 32 a in
    let c = cut a (positive a l) h in
    let e : y ≡ of_int binary32 (pos n) = p ∙ c.1 in
    let b = unsigned_back binary32 32 n (small_exact n (lt_of_le_of_lt c.0 (lit< tt))) (lt_of_le_of_lt c.0 (lit< tt)) in
    record { whole = subst (λ (z : Float). T (in_unsigned binary32 32 z)) (sym e) b.0; count = ap (to_unsigned 32) e ∙ b.1; value = e }

-- ---- the sign
pub with_sign : (u : Bool) (x : Float) → signed (sign_of x) (whole_of u (abs_of x)) ≡ whole_of u x
unfolding signed sign_of abs_of
with_sign u nan = refl
with_sign u (inf true) = unfold whole_of neg in refl
with_sign u (inf false) = refl
with_sign u (fin true m e) = sym (whole_neg u (neg (fin true m e))) ∙ unfold neg in refl
with_sign u (fin false m e) = refl

-- ---- from 2 ^ 23 on
over : (s : Bool) (m : ℕ) (e : ℤ) → T (not (lt (abs_of (fin s m e)) limit)) → 8388608 * down e ≤ m * up e
unfolding abs_of signed sign_of neg lt
over true m e h = subst (λ (z : ℕ). 8388608 * down e ≤ z) (mul-one (m * up e)) (nltb→le (m * up e * 1) (8388608 * down e) h)
over false m e h = subst (λ (z : ℕ). 8388608 * down e ≤ z) (mul-one (m * up e)) (nltb→le (m * up e * 1) (8388608 * down e) h)

pub kept : (u : Bool) (x : Float) → T (fits binary32 x) → T (not (lt (abs_of x) limit)) → x ≡ whole_of u x
kept u nan F h = unfold whole_of in refl
kept u (inf s) F h = unfold whole_of in refl
kept u (fin s m e) F h = sym (whole_large u s m e F (over s m e h))

-- ---- x as an i32: f, the whole number below its size a, tells the one above
abbrev pub counted : Bool → Float → Float → ℕ
counted u a f = cond u (cond (lt f a) (to_unsigned 32 f + 1) (to_unsigned 32 f)) (to_unsigned 32 f)

pub record Signed (u : Bool) (x a f : Float) : Type 0 where
  pub whole : T (in_unsigned binary32 32 f)
  pub low : to_unsigned 32 f ≤ 8388608
  pub small : counted u a f ≤ 2147483647
  pub value : cond (sign_of x) (neg_ℤ (pos (counted u a f))) (pos (counted u a f)) ≡ to_signed 31 (whole_of u x)

module _ (m : ℕ) (e : ℤ) (h : m * up e < 8388608 * down e) where
  abbrev num : ℕ
  num = m * up e

  abbrev den : ℕ
  den = down e

  abbrev size : Float
  size = fin false m e

  abbrev cut_off : Float
  cut_off = whole_of false size

  next : (t : Bool) → lt cut_off size ≡ t → cond t (num / den + 1) (num / den) ≡ quot true num den
  next t p = go t p (lt_values cut_off size (num / den) 1 num den (zero-lt-suc 0) (down_pos e) (small false false m e h) (refl, refl))
    where
      go : (t : Bool) → lt cut_off size ≡ t → (T (lt cut_off size) → num / den * den < num * 1) × (T (not (lt cut_off size)) → num * 1 ≤ num / den * den) → cond t (num / den + 1) (num / den) ≡ quot true num den
      go true p v = sym (quot_more num den (down_pos e) (subst (λ (z : ℕ). num / den * den < z) (mul-one num) (v.0 (yes p))))
      go false p v = sym (quot_same num den (down_pos e) (subst (λ (z : ℕ). z ≤ num / den * den) (mul-one num) (v.1 (no p))))

  either_way : (u : Bool) → cond u (cond (lt cut_off size) (num / den + 1) (num / den)) (num / den) ≡ quot u num den
  either_way true = next (lt cut_off size) refl
  either_way false = refl

  signed_fin : (u s : Bool) → T (fits binary32 (fin s m e)) → Signed u (fin s m e) size cut_off
  unfolding whole_of of_int sign_of
  signed_fin u s F =
      let q = num / den in
      let top : (v : Bool) → quot v num den ≤ 8388608 = λ v. quot_le v num den 8388608 (down_pos e) h in
      let b = unsigned_back binary32 32 q (small_exact q (lt_of_le_of_lt (top false) (lit< tt))) (lt_of_le_of_lt (top false) (lit< tt)) in
      let k : counted u size cut_off ≡ quot u num den = ap (λ (z : ℕ). cond u (cond (lt cut_off size) (z + 1) z) z) b.1 ∙ either_way u in
      let i : quot u num den ≤ 2147483647 = le_trans (top u) (lit≤ tt) in
      record {
        whole = b.0;
        low = le_trans (le_of_eq b.1) (top false);
        small = le_trans (le_of_eq k) i;
        value = ap (λ (z : ℕ). cond s (neg_ℤ (pos z)) (pos z)) k ∙ uncapped s (quot u num den) i ∙ sym (whole_signed_lem u 31 (fin s m e) F ∙ unfold whole_signed in refl);
      }

signed_size : (u : Bool) (x : Float) → T (fits binary32 x) → T (lt (abs_of x) limit) → Signed u x (abs_of x) (whole_of false (abs_of x))
unfolding abs_of signed sign_of neg
signed_size u nan F h = absurd (no_nan h)
signed_size u (inf true) F h = absurd (no_inf h)
signed_size u (inf false) F h = absurd (no_inf h)
signed_size u (fin true m e) F h = signed_fin m e (under m e h) u true F
signed_size u (fin false m e) F h = signed_fin m e (under m e h) u false F

pub as_i32 : (u : Bool) (x a f : Float) → T (fits binary32 x) → a ≡ abs_of x → T (lt a limit) → f ≡ whole_of false a → Signed u x a f
as_i32 u x a f F p h q = rw (q, p) (signed_size u x F (subst (λ (v : Float). T (lt v limit)) p h))
