-- How many ranges a walk may still look at, and that each turn of the loop leaves fewer. Assumes nothing.
use mathlib.Core.Path.{◌≡◌, refl, sym, ap, ap₂, ◌∙◌}
use mathlib.Core.Logic.{◌⊎◌, inl, inr}
use Prim.Native.Nat.{ℕ, zero, suc, ◌+◌, ◌-◌, ◌*◌, ◌/◌, ◌%◌, ◌^◌, ◌≤◌, ◌<◌}
use native.Mathlib.Nat.{mul_comm, mul-le-mul_right, lt_of_mul-lt-mul_right, pow-suc, eq-zero-or-pos}
use native.Mathlib.Omega.{arith}
use lib.Count.{ones, ones_in, ones_cat}
use lib.Pow.{pow-add, pow_pos}

-- Of the r 65536ths that are left, the range in turn has w, and those that wait behind it are the binary digits of the rest.
-- A range of n 65536ths, its halves, and so on down, are 2 n - 1 ranges.
pub ranges : ℕ → ℕ → ℕ
ranges r w = 2 * r - 1 - ones (r - w)

few_in : (d n : ℕ) → ones_in d n ≤ d
unfolding ones_in
few_in zero n = omega arith
few_in (suc d) n = omega (arith, few_in d (n / 2))

few : (n : ℕ) → ones n ≤ n
unfolding ones
few n = few_in n n

scaled : (n d : ℕ) → ones (n * 2 ^ d) ≡ ones n
unfolding ones
scaled n d =
    let e : n * 2 ^ d ≡ n * 2 ^ d + 0 = omega arith in
    let z : ones n + ones 0 ≡ ones n = omega arith in
    ap ones e ∙ ones_cat d n 0 (pow_pos d) ∙ z

-- an odd multiple has one digit more than the even one below it
one_more_lem : (m d : ℕ) → ones ((m * 2 + 1) * 2 ^ d) ≡ ones (m * 2 * 2 ^ d) + 1
unfolding ones ones_in
one_more_lem m d =
    scaled (m * 2 + 1) d
    ∙ ones_cat 1 m 1 (omega arith)
    ∙ ap (λ (x : ℕ). x + 1) (sym (scaled m 1) ∙ sym (scaled (m * 2) d))

-- the whole is 2^k ranges of 2^d 65536ths
whole_is : (k d : ℕ) → d + k ≡ 16 → 2 ^ k * 2 ^ d ≡ 65536
whole_is k d s = mul_comm (2 ^ k) (2 ^ d) ∙ sym (pow-add 2 d k) ∙ ap (λ (x : ℕ). 2 ^ x) s

-- at the start, with the whole before it
pub most : ranges 65536 65536 ≡ 131071
unfolding ranges ones ones_in
most = refl

digit_more : (r r' o o' : ℕ) → r' ≡ r → o' ≡ o + 1 → o + 1 < 2 * r → 2 * r' - 1 - o' < 2 * r - 1 - o
digit_more r r' o o' e f h = omega arith

-- a range that is halved
pub halves : (k d u : ℕ) → u < 2 ^ k → suc d + k ≡ 16
    → ranges (65536 - u * 2 * 2 ^ d) (2 ^ d) < ranges (65536 - u * 2 ^ suc d) (2 ^ suc d)
unfolding ranges
halves k d u h s =
    let w = 2 ^ d in
    let m = 2 ^ k - u - 1 in
    let e : 2 ^ k ≡ m + u + 1 = omega arith in
    let t : 2 ^ suc d ≡ w * 2 = pow-suc 2 d in
    let v : u * 2 ^ suc d ≡ u * (w * 2) = ap (λ (x : ℕ). u * x) t in
    let all : (m + u + 1) * (w * 2) ≡ 65536 = ap₂ (λ (x y : ℕ). x * y) (sym e) (sym t) ∙ whole_is k (suc d) s in
    let behind : 65536 - u * 2 ^ suc d - 2 ^ suc d ≡ m * 2 * w = omega (arith, all, t, v) in
    let here : 65536 - u * 2 * w - w ≡ (m * 2 + 1) * w = omega (arith, all) in
    let less : ones (m * 2 * w) + 1 < 2 * (65536 - u * 2 ^ suc d) = omega (arith, all, v, few (m * 2 * w), pow_pos d) in
    digit_more (65536 - u * 2 ^ suc d) (65536 - u * 2 * w) (ones (65536 - u * 2 ^ suc d - 2 ^ suc d)) _ (omega (arith, v))
    (ap ones here ∙ one_more_lem m d ∙ ap (λ (x : ℕ). ones x + 1) (sym behind)) (rw behind less)

-- a range that is accepted: the next one is the v-th, an odd one, or the end
pub past : (k d v w : ℕ) → 0 < w → v % 2 ≡ 1 → d + k ≡ 16
    → ranges (65536 - v * 2 ^ d) (2 ^ d) < ranges (65536 - v * 2 ^ d + w) w
unfolding ranges
past k d v w p odd s = go k s (eq-zero-or-pos (65536 - v * 2 ^ d))
  where
    same : 65536 - v * 2 ^ d + w - w ≡ 65536 - v * 2 ^ d
    same = omega arith

    go : (k : ℕ) → d + k ≡ 16 → (65536 - v * 2 ^ d ≡ 0) ⊎ (0 < 65536 - v * 2 ^ d)
        → ranges (65536 - v * 2 ^ d) (2 ^ d) < ranges (65536 - v * 2 ^ d + w) w
    go k s (inl e) = omega (arith, ap ones (same ∙ e), few 0)
    go zero s (inr h) =
        let one : 1 * 2 ^ d ≤ v * 2 ^ d = mul-le-mul_right (2 ^ d) (omega arith) in
        absurd (omega (arith, one, whole_is 0 d s))
    go (suc k) s (inr h) =
        let w = 2 ^ d in
        let all = whole_is (suc k) d s in
        let v-less : v < 2 ^ suc k = lt_of_mul-lt-mul_right w (omega (arith, all)) in
        let m = 2 ^ k - v / 2 - 1 in
        let e : 2 ^ suc k ≡ v + (m * 2 + 1) = omega (arith, pow-suc 2 k) in
        let here : 65536 - v * w ≡ (m * 2 + 1) * w = omega (arith, all, ap (λ (x : ℕ). x * w) e) in
        let behind : 65536 - v * w - w ≡ m * 2 * w = omega (arith, here) in
        omega (arith, ap ones (same ∙ here), ap ones behind, here, one_more_lem m d, few (m * 2 * w))
