-- Halving three numbers at once keeps whether one is below the sum of the others. Assumes nothing.
use Prim.Native.Nat.{ℕ, zero, suc, ◌+◌, ◌-◌, ◌*◌, ◌^◌, ◌≤◌, ◌<◌}
use mathlib.Core.Path.{◌≡◌, refl, ap, ◌∙◌}
use mathlib.Core.Bool.{Bool, true, false, not, ◌&&◌}
use native.Mathlib.Omega.{arith}
use lib.Dec.{leb, ltb}
use native.Mathlib.Nat.{pow-suc}
use borrow.Author.Tests.{ltb-true, ltb-false, leb-true, leb-false}
use Rattle.mender.specs.declared.near.Scaled.{Scaled}
use Rattle.mender.specs.Scaled.{value_of, halved, half_of, left_over, carry_of}

-- ---- one number

halves_of : (m s : ℕ) → m * 2 ^ s ≡ value_of (halved m s) + value_of (halved m s) + left_over m s
unfolding halved left_over
halves_of m zero = omega arith
halves_of m (suc s) = ap (λ (k : ℕ). m * k) (pow-suc 2 s) ∙ omega arith

pub left_bit : (m s : ℕ) → left_over m s ≤ 1
unfolding left_over
left_bit m zero = omega arith
left_bit m (suc s) = omega arith

-- how many halvings there are left, at most
pub size : Scaled → ℕ
size n = n.digits + n.shift

-- one less, where there are digits
size_half : (m s : ℕ) → size (halved m s) + (m - (m - 1)) ≤ m + s
unfolding halved size
size_half m zero = omega arith
size_half m (suc s) = omega arith

pub shrinks : (u v w : Scaled) → 0 < u.digits + v.digits + w.digits → size (half_of u) + size (half_of v) + size (half_of w) < size u + size v + size w
unfolding size
shrinks u v w h =
    let a = size_half u.digits u.shift in
    let b = size_half v.digits v.shift in
    let c = size_half w.digits w.shift in
    omega arith

-- ---- three numbers

pub same_test : (a b c d : ℕ) → (a < b → c < d) → (c < d → a < b) → ltb a b ≡ ltb c d
same_test a b c d f g = by (ltb a b) (ltb c d) refl refl
  where
    by : (s t : Bool) → ltb a b ≡ s → ltb c d ≡ t → s ≡ t
    by true true e h = refl
    by false false e h = refl
    by true false e h = absurd (let i = f (ltb-true a b e) in let j = ltb-false c d h in omega arith)
    by false true e h = absurd (let i = g (ltb-true c d h) in let j = ltb-false a b e in omega arith)

-- u, v, w and the carry say the same as a, b, c and what was to be added
pub record Halving (a b c : Scaled) (more : ℕ) (u v w : Scaled) (carry : ℕ) : Type 0 where
  pub few : carry ≤ 2
  pub same : ltb (value_of u) (value_of v + value_of w + carry) ≡ ltb (value_of a) (value_of b + value_of c + more)

few_carried : (u v w : Scaled) (q : ℕ) → q ≤ 2 → carry_of u v w q ≤ 2
few_carried u v w q h =
    let l = left_bit v.digits v.shift in
    let m = left_bit w.digits w.shift in
    omega arith

carried_on : (u v w : Scaled) (q : ℕ) → ltb (value_of (half_of u)) (value_of (half_of v) + value_of (half_of w) + carry_of u v w q) ≡ ltb (value_of u) (value_of v + value_of w + q)
carried_on u v w q =
    let l = left_bit u.digits u.shift in
    let a = halves_of u.digits u.shift in
    let b = halves_of v.digits v.shift in
    let c = halves_of w.digits w.shift in
    same_test (value_of (half_of u)) (value_of (half_of v) + value_of (half_of w) + carry_of u v w q) (value_of u) (value_of v + value_of w + q) (λ h. omega arith) (λ h. omega arith)

pub begun : (a b c : Scaled) (more : ℕ) → more ≤ 2 → Halving a b c more a b c more
begun a b c more h = record { few = h; same = refl }

pub halve : {a b c : Scaled} {more : ℕ} {u v w u' v' w' : Scaled} {q q' : ℕ} → Halving a b c more u v w q → q' ≡ carry_of u v w q → u' ≡ half_of u → v' ≡ half_of v → w' ≡ half_of w
    → Halving a b c more u' v' w' q'
halve {u = u} {v = v} {w = w} {q = q} h e f g i = rw (e, f, g, i) (record { few = few_carried u v w q h.few; same = carried_on u v w q ∙ h.same })

no_value : (n : Scaled) → n.digits ≡ 0 → value_of n ≡ 0
no_value n e = ap (λ (m : ℕ). m * 2 ^ n.shift) e ∙ omega arith

-- ---- how far two magnitudes are apart, by sums alone

pub alike : (m n t : ℕ) → ltb m (n + t + 1) && ltb n (m + t + 1) ≡ leb ((m - n) + (n - m)) t
alike m n t = by (ltb m (n + t + 1)) (ltb n (m + t + 1)) (leb ((m - n) + (n - m)) t) refl refl refl
  where
    by : (p q r : Bool) → ltb m (n + t + 1) ≡ p → ltb n (m + t + 1) ≡ q → leb ((m - n) + (n - m)) t ≡ r → p && q ≡ r
    by true true true e f g = refl
    by true true false e f g = absurd (omega (arith, ltb-true m (n + t + 1) e, ltb-true n (m + t + 1) f, leb-false ((m - n) + (n - m)) t g))
    by true false true e f g = absurd (omega (arith, ltb-false n (m + t + 1) f, leb-true ((m - n) + (n - m)) t g))
    by true false false e f g = refl
    by false q true e f g = absurd (omega (arith, ltb-false m (n + t + 1) e, leb-true ((m - n) + (n - m)) t g))
    by false q false e f g = refl

pub across : (m n t : ℕ) → not (ltb t (m + n + 0)) ≡ leb (m + n) t
across m n t = by (ltb t (m + n + 0)) (leb (m + n) t) refl refl
  where
    by : (p q : Bool) → ltb t (m + n + 0) ≡ p → leb (m + n) t ≡ q → not p ≡ q
    by true true e f = absurd (omega (arith, ltb-true t (m + n + 0) e, leb-true (m + n) t f))
    by true false e f = refl
    by false true e f = refl
    by false false e f = absurd (omega (arith, ltb-false t (m + n + 0) e, leb-false (m + n) t f))
