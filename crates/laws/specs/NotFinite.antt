-- What an infinity or a NaN does to a sum, a difference and a product, and when a result has no sign. Every law holds in both formats. Assumes nothing.
use Rattle.std.specs.Prelude.{◌≡◌, refl, Bool, true, false, not, ◌&&◌, ◌||◌, cond, T, ltb, eqb, Float}
use Rattle.std.proofs.Common.{subst, inl, inr, arith, ltb→lt, eqb→eq, le-ltb}
use Rattle.std.specs.Bool.{beq}
use Prim.Native.Nat.{ℕ, zero, suc, ◌+◌, ◌-◌, ◌*◌, ◌/◌, ◌%◌, ◌^◌, compare}
use Rattle.std.specs.Float.{nan, inf, fin, Format}
use Rattle.std.specs.Float.Ieee.{prec, emax, low, up, down, unlike, size, nearest, odd, units, round, sum, add, sub, mul, neg, lt, eq, le}
use Rattle.std.specs.Float.Ieee.Fits.{and_l}
use Rattle.std.specs.Float.Ieee.Scale.{finite}
use Rattle.laws.specs.Same.{add_swap, mul_swap}
use Rattle.laws.specs.Own.{or_split}

-- ---- what is not finite stays so
abbrev pub Stray : Float → Type 0
Stray x = T (not (finite x))

stray_or : (b s : Bool) → Stray (cond b nan (inf s))
stray_or true s = tt
stray_or false s = tt

or_stray : (b s : Bool) → Stray (cond b (inf s) nan)
or_stray true s = tt
or_stray false s = tt

pub stray_add : (f : Format) (x y : Float) → Stray x → Stray (add f x y)
unfolding add
stray_add f nan y h = tt
stray_add f (inf s) nan h = tt
stray_add f (inf s) (inf t) h = or_stray (beq s t) s
stray_add f (inf s) (fin t n d) h = tt
stray_add f (fin s m e) y h = absurd h

pub add_stray : (f : Format) (x y : Float) → Stray y → Stray (add f x y)
add_stray f x y h = subst (λ (v : Float). Stray v) (add_swap f y x) (stray_add f y x h)

pub stray_sub : (f : Format) (x y : Float) → Stray x → Stray (sub f x y)
unfolding sub
stray_sub f x y h = stray_add f x (neg y) h

pub stray_mul : (f : Format) (x y : Float) → Stray x → Stray (mul f x y)
unfolding mul
stray_mul f nan y h = tt
stray_mul f (inf s) nan h = tt
stray_mul f (inf s) (inf t) h = tt
stray_mul f (inf s) (fin t n d) h = stray_or (eqb n 0) (unlike s t)
stray_mul f (fin s m e) y h = absurd h

pub mul_stray : (f : Format) (x y : Float) → Stray y → Stray (mul f x y)
mul_stray f x y h = subst (λ (v : Float). Stray v) (mul_swap f y x) (stray_mul f y x h)

-- ---- a NaN, or the infinity of sign s
abbrev pub beyond : Bool → Float → Bool
beyond s nan = true
beyond s (inf t) = beq s t
beyond s (fin t m e) = false

-- the sign of an infinity, and some sign for a NaN
abbrev pub side : Float → Bool
side nan = true
side (inf s) = s
side (fin s m e) = s

pub beyond_side : (x : Float) → Stray x → T (beyond (side x) x)
beyond_side nan h = tt
beyond_side (inf true) h = tt
beyond_side (inf false) h = tt
beyond_side (fin s m e) h = absurd h

met : (s t u : Bool) → T (beq s u) → T (beyond s (cond (beq t u) (inf t) nan))
met true true true h = tt
met true true false h = absurd h
met true false true h = tt
met true false false h = absurd h
met false true true h = absurd h
met false true false h = tt
met false false true h = absurd h
met false false false h = tt

pub add_beyond : (f : Format) (s : Bool) (x y : Float) → T (beyond s y) → T (beyond s (add f x y))
unfolding add
add_beyond f s nan y h = tt
add_beyond f s (inf t) nan h = tt
add_beyond f s (inf t) (inf u) h = met s t u h
add_beyond f s (inf t) (fin u n d) h = absurd h
add_beyond f s (fin t m e) nan h = tt
add_beyond f s (fin t m e) (inf u) h = h
add_beyond f s (fin t m e) (fin u n d) h = absurd h

pub beyond_add : (f : Format) (s : Bool) (x y : Float) → T (beyond s x) → T (beyond s (add f x y))
beyond_add f s x y h = subst (λ (v : Float). T (beyond s v)) (add_swap f y x) (add_beyond f s y x h)

turned : (s t : Bool) → T (beq s t) → T (beq (not s) (not t))
turned true true h = tt
turned true false h = absurd h
turned false true h = absurd h
turned false false h = tt

beyond_neg : (s : Bool) (x : Float) → T (beyond s x) → T (beyond (not s) (neg x))
unfolding neg
beyond_neg s nan h = tt
beyond_neg s (inf t) h = turned s t h
beyond_neg s (fin t m e) h = absurd h

pub beyond_sub : (f : Format) (s : Bool) (x y : Float) → T (beyond s x) → T (beyond s (sub f x y))
unfolding sub
beyond_sub f s x y h = beyond_add f s x (neg y) h

pub sub_beyond : (f : Format) (s : Bool) (x y : Float) → T (beyond s y) → T (beyond (not s) (sub f x y))
unfolding sub
sub_beyond f s x y h = add_beyond f (not s) x (neg y) (beyond_neg s y h)

-- two that go apart
parted : (s t u : Bool) → T (beq s t) → T (beq (not s) u) → cond (beq t u) (inf t) nan ≡ nan
parted true true true h k = absurd k
parted true true false h k = refl
parted true false u h k = absurd h
parted false true u h k = absurd h
parted false false true h k = refl
parted false false false h k = absurd k

pub apart_add : (f : Format) (s : Bool) (x y : Float) → T (beyond s x) → T (beyond (not s) y) → add f x y ≡ nan
unfolding add
apart_add f s nan y h k = refl
apart_add f s (inf t) nan h k = refl
apart_add f s (inf t) (inf u) h k = parted s t u h k
apart_add f s (inf t) (fin u n d) h k = absurd k
apart_add f s (fin t m e) y h k = absurd h

-- the plus infinity, or a NaN, is below nothing
pub above_all : (x y : Float) → T (beyond false x) → lt x y ≡ false
unfolding lt
above_all nan y h = refl
above_all (inf false) nan h = refl
above_all (inf false) (inf t) h = refl
above_all (inf false) (fin t n d) h = refl
above_all (inf true) y h = absurd h
above_all (fin s m e) y h = absurd h

pub beyond_square : (f : Format) (x : Float) → Stray x → T (beyond false (mul f x x))
unfolding mul
beyond_square f nan h = tt
beyond_square f (inf true) h = tt
beyond_square f (inf false) h = tt
beyond_square f (fin s m e) h = absurd h

-- ---- no minus sign
abbrev pub unsigned : Float → Bool
unsigned nan = true
unsigned (inf s) = not s
unsigned (fin s m e) = not s

unsigned_odd : (d q k l : ℕ) → T (unsigned (odd d false q k l))
unfolding odd
unsigned_odd d zero k l = tt
unsigned_odd d (suc q) k l = tt

pub unsigned_units : (f : Format) (q k : ℕ) → T (unsigned (units f false q k))
unfolding units
unsigned_units f q k = go (ltb (q * 2 ^ k) (2 ^ (low f + suc (emax f))))
  where
    go : (b : Bool) → T (unsigned (cond b (odd (suc (prec f)) false q k (low f)) (inf false)))
    go true = unsigned_odd (suc (prec f)) q k (low f)
    go false = tt

pub unsigned_round : (f : Format) (a c : ℕ) → T (unsigned (round f false a c))
unfolding round
unsigned_round f a c =
    let n = a * 2 ^ low f in
    let k = size (n / c) - prec f in
    let v = c * 2 ^ k in
    unsigned_units f (nearest (n / v) (compare (n % v * 2) v)) k

unsigned_or : (b : Bool) → T (unsigned (cond b nan (inf false)))
unsigned_or true = tt
unsigned_or false = tt

pub unsigned_mul : (f : Format) (x y : Float) → T (unsigned x) → T (unsigned y) → T (unsigned (mul f x y))
unfolding mul
unsigned_mul f nan y h k = tt
unsigned_mul f (inf true) y h k = absurd h
unsigned_mul f (inf false) nan h k = tt
unsigned_mul f (inf false) (inf true) h k = absurd k
unsigned_mul f (inf false) (inf false) h k = tt
unsigned_mul f (inf false) (fin true n d) h k = absurd k
unsigned_mul f (inf false) (fin false n d) h k = unsigned_or (eqb n 0)
unsigned_mul f (fin true m e) y h k = absurd h
unsigned_mul f (fin false m e) nan h k = tt
unsigned_mul f (fin false m e) (inf true) h k = absurd k
unsigned_mul f (fin false m e) (inf false) h k = unsigned_or (eqb m 0)
unsigned_mul f (fin false m e) (fin true n d) h k = absurd k
unsigned_mul f (fin false m e) (fin false n d) h k = unsigned_round f (m * up e * (n * up d)) (down e * down d)

-- a factor without a minus sign turns no infinity round
as_signed : (s t u : Bool) → T (beq s t) → T (not u) → T (beq s (unlike t u))
as_signed s t true h k = absurd k
as_signed true true false h k = tt
as_signed true false false h k = absurd h
as_signed false true false h k = absurd h
as_signed false false false h k = tt

nan_or : (s v b : Bool) → T (beq s v) → T (beyond s (cond b nan (inf v)))
nan_or s v true h = tt
nan_or s v false h = h

pub beyond_mul : (f : Format) (s : Bool) (x w : Float) → T (beyond s x) → T (unsigned w) → T (beyond s (mul f x w))
unfolding mul
beyond_mul f s nan w h k = tt
beyond_mul f s (inf t) nan h k = tt
beyond_mul f s (inf t) (inf u) h k = as_signed s t u h k
beyond_mul f s (inf t) (fin u n d) h k = nan_or s (unlike t u) (eqb n 0) (as_signed s t u h k)
beyond_mul f s (fin t m e) w h k = absurd h

-- the larger less the smaller
at_least : (a b : ℕ) → T (ltb b a || (eqb b a && true)) → ltb a b ≡ false
at_least a b h =
    elim (or_split (ltb b a) (eqb b a && true) h) [
      | inl p ↦ le-ltb a b (omega (arith, ltb→lt b a p))
      | inr p ↦ le-ltb a b (omega (arith, eqb→eq b a (and_l (eqb b a) true p)))
    ]

unsigned_less : (f : Format) (a b c : ℕ) → ltb a b ≡ false → T (unsigned (sum f false a true b c))
unfolding sum
unsigned_less f a b c e = rw e (unsigned_round f (a - b) c)

pub unsigned_sub : (f : Format) (x y : Float) → T (le y x) → T (unsigned x) → T (unsigned y) → T (unsigned (sub f x y))
unfolding sub add neg le lt eq
unsigned_sub f nan y l h k = tt
unsigned_sub f (inf true) y l h k = absurd h
unsigned_sub f (inf false) nan l h k = tt
unsigned_sub f (inf false) (inf true) l h k = absurd k
unsigned_sub f (inf false) (inf false) l h k = tt
unsigned_sub f (inf false) (fin t n d) l h k = tt
unsigned_sub f (fin true m e) y l h k = absurd h
unsigned_sub f (fin false m e) nan l h k = tt
unsigned_sub f (fin false m e) (inf true) l h k = absurd k
unsigned_sub f (fin false m e) (inf false) l h k = absurd l
unsigned_sub f (fin false m e) (fin true n d) l h k = absurd k
unsigned_sub f (fin false m e) (fin false n d) l h k =
    unsigned_less f (m * up e * down d) (n * up d * down e) (down e * down d) (at_least (m * up e * down d) (n * up d * down e) l)
