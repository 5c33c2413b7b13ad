-- The places of the walk are whole 65536ths, which binary32 holds exactly. Assumes nothing.
use mathlib.Core.Path.{◌≡◌, refl, sym, ap, ◌∙◌, subst}
use mathlib.Core.Bool.{Bool, true, false}
use Prim.Native.Nat.{ℕ, suc, ◌+◌, ◌*◌, ◌/◌, ◌^◌, ◌≤◌, ◌<◌}
use native.Mathlib.Nat.{mul-div_cancel, pow-suc, lt_of_le_of_lt, add-mul, one-mul, mul-one}
use native.Mathlib.Omega.{arith}
use lib.Dec.{T, lit<, lit≤}
use lib.IntN.{pos, negsuc}
use lib.Pow.{pow-add, pow_pos, pow_mono}
use lib.Ieee.{Float, nan, inf, fin, binary32, round, mul, add, eq, le, of_int, up, down}
use lib.Ieee.Exact.{HasValue}
use lib.Ieee.Fits.{down_pos}
use Rattle.laws.specs.Same.{one}
use Rattle.laws.specs.Dyadic.{of_int_lem, half_is, dy_val, dy_mul, dy_add, dy_le, dy_scale}
use Rattle.laws.proofs.Dyadic.{at_end}
use Rattle.curve.specs.Curve.{part}

few : {n : ℕ} → n ≤ 65536 → n < 2 ^ 24
few h = lt_of_le_of_lt h (lit< tt)

wide : {d : ℕ} → d ≤ 16 → 2 ^ d < 2 ^ 24
wide {d} h = few (pow_mono {i = d} {j = 16} h)

pub start_is : (u d : ℕ) → u ≤ 65536 → d ≤ 16 → mul binary32 (of_int binary32 (pos u)) (part (2 ^ d)) ≡ part (u * 2 ^ d)
start_is u d h k =
    ap (λ (x : Float). mul binary32 x (part (2 ^ d))) (of_int_lem u)
    ∙ dy_mul binary32 u 0 (2 ^ d) 16 (few h) (lit≤ tt) (wide k) (lit≤ tt)

pub end_is : (u d : ℕ) → u * 2 ^ d ≤ 65536 → d ≤ 16 → add binary32 (part (u * 2 ^ d)) (part (2 ^ d)) ≡ part ((u + 1) * 2 ^ d)
end_is u d h k =
    dy_add binary32 (u * 2 ^ d) (2 ^ d) 16 (few h) (wide k) (lit≤ tt)
    ∙ ap part (ap (λ (x : ℕ). u * 2 ^ d + x) (sym (one-mul (2 ^ d))) ∙ sym (add-mul u 1 (2 ^ d)))

pub halved : (d : ℕ) → suc d ≤ 16 → mul binary32 (part (2 ^ suc d)) (fin false 1 (negsuc 0)) ≡ part (2 ^ d)
halved d h =
    ap (λ (x : Float). mul binary32 (part (2 ^ suc d)) x) (sym half_is)
    ∙ dy_mul binary32 (2 ^ suc d) 16 1 1 (wide h) (lit≤ tt) (lit< tt) (lit≤ tt)
    ∙ ap (λ (n : ℕ). round binary32 false n (2 ^ 17)) (mul-one (2 ^ suc d) ∙ pow-suc 2 d)
    ∙ dy_scale binary32 (2 ^ d) 16 1

pub doubled : (d s : ℕ) → d + s ≤ 16 → mul binary32 (part (2 ^ d)) (of_int binary32 (pos (2 ^ s))) ≡ part (2 ^ (d + s))
doubled d s h =
    ap (λ (x : Float). mul binary32 (part (2 ^ d)) x) (of_int_lem (2 ^ s))
    ∙ dy_mul binary32 (2 ^ d) 16 (2 ^ s) 0 (wide {d = d} (omega arith)) (lit≤ tt) (wide {d = s} (omega arith)) (lit≤ tt)
    ∙ ap part (sym (pow-add 2 d s))

-- ---- the loop's tests
true_is : {b : Bool} → b ≡ true → T b
true_is e = subst T (sym e) tt

false_not : {b : Bool} → b ≡ false → T b → ⊥
false_not e t = subst T e t

pub at_the_end : (n : ℕ) → n ≤ 65536 → eq (part n) one ≡ true → n ≡ 65536
at_the_end n h e = (at_end n 16 h (lit≤ tt)).0 (true_is e)

pub not_at_the_end : (n : ℕ) → n ≤ 65536 → eq (part n) one ≡ false → n ≡ 65536 → ⊥
not_at_the_end n h e k = false_not e ((at_end n 16 h (lit≤ tt)).1 k)

limit : (d : ℕ) → d ≤ 16 → T (le (part (2 ^ d)) (part 1)) → 2 ^ d * 65536 ≤ 65536
limit d h t = (dy_le binary32 (2 ^ d) 16 1 16 (wide h) (lit≤ tt) (lit< tt) (lit≤ tt)).0 t

-- a range that can be halved is above the limit, and one that cannot be is not
pub above_limit : (d : ℕ) → suc d ≤ 16 → le (part (2 ^ suc d)) (part 1) ≡ false
above_limit d h = go (le (part (2 ^ suc d)) (part 1)) (limit (suc d) h)
  where
    go : (b : Bool) → (T b → 2 ^ suc d * 65536 ≤ 65536) → b ≡ false
    go true k = absurd (omega (arith, k tt, pow_pos d))
    go false k = refl

pub at_limit : le (part 1) (part 1) ≡ true
unfolding round le
at_limit = refl

-- ---- how many 65536ths a float is
pub parts : Float → ℕ
parts nan = 0
parts (inf s) = 0
parts (fin s m e) = m * up e * 65536 / down e

has : (x : Float) (n : ℕ) → HasValue x false n 65536 → parts x ≡ n
unfolding parts
has nan n h = absurd h
has (inf s) n h = absurd h
has (fin s m e) n h = ap (λ (z : ℕ). z / down e) h.1 ∙ mul-div_cancel n (down_pos e)

pub parts_of : (d : ℕ) → d ≤ 16 → parts (part (2 ^ d)) ≡ 2 ^ d
parts_of d h = has (part (2 ^ d)) (2 ^ d) (dy_val binary32 (2 ^ d) 16 (wide h) (lit≤ tt))
