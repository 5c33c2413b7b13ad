-- The four roots of f32: the f32 nearest to the exact root, ties to even, by comparing whole powers. Every finite f32 is a whole number of units of
-- 2 ^ -149 (`mag`), so each of the roots is the k-th root of one whole number in the same units: √(n u) is √(n * 2 ^ 149) u, for u = 2 ^ -149. Definitions only;
-- `Nearest` says without an algorithm what `nearest_root` is, and proves it.
use Rattle.std.specs.Prelude.{ℕ, zero, suc, ◌+◌, ◌-◌, ◌*◌, ◌/◌, ◌^◌, Bool, true, false, cond, ℤ, pos, nat_le, Float}
use Prim.Native.Nat.{compare}
use Rattle.std.specs.Float.{nan, inf, fin, binary32}
use Rattle.std.specs.Float.Ieee.{up, down, size, nearest, units}

-- m * 2 ^ e in units of 2 ^ -149: of every finite f32 exactly
abbrev pub mag : ℕ → ℤ → ℕ
mag m e = m * up e * 2 ^ 149 / down e

-- the largest r with r ^ k at most a: `root`, found by trying binary digits from 2 ^ (j - 1) down on top of r
unfoldable pub root_from : ℕ → ℕ → ℕ → ℕ → ℕ
root_from k zero r a = r
root_from k (suc j) r a = root_from k j (cond (nat_le ((r + 2 ^ j) ^ k) a) (r + 2 ^ j) r) a

unfoldable pub root : ℕ → ℕ → ℕ
unfolding size root_from
root k a = root_from k (size a) 0 a

-- The f32 nearest to the k-th root of a units, with the sign s. Of the root's whole part the format keeps 24 leading digits, q, and drops d.
-- The root is below, at or above the middle, q + 1/2, as a * 2 ^ k is to (2 q + 1) ^ k, in multiples of 2 ^ d: `nearest` then keeps q, takes the even one or goes up.
unfoldable pub nearest_root : Bool → ℕ → ℕ → Float
unfolding size root units
nearest_root s k a =
    let d = size (root k a) - 24 in
    let q = root k a / 2 ^ d in
    units binary32 s (nearest q (compare (a * 2 ^ k) ((2 * q + 1) ^ k * 2 ^ (k * d)))) d

-- √x: NaN below zero, and a zero keeps its sign
unfoldable pub sqrt_of : Float → Float
unfolding nearest_root
sqrt_of nan = nan
sqrt_of (inf true) = nan
sqrt_of (inf false) = inf false
sqrt_of (fin s zero e) = fin s zero e
sqrt_of (fin true (suc m) e) = nan
sqrt_of (fin false (suc m) e) = nearest_root false 2 (mag (suc m) e * 2 ^ 149)

-- ∛x, with x's sign
unfoldable pub cbrt_of : Float → Float
unfolding nearest_root
cbrt_of nan = nan
cbrt_of (inf s) = inf s
cbrt_of (fin s zero e) = fin s zero e
cbrt_of (fin s (suc m) e) = nearest_root s 3 (mag (suc m) e * 2 ^ 298)

-- x ^ (2/3) = ∛(x²): NaN below zero, and +0 of either zero
unfoldable pub two_thirds_of : Float → Float
unfolding nearest_root
two_thirds_of nan = nan
two_thirds_of (inf true) = nan
two_thirds_of (inf false) = inf false
two_thirds_of (fin s zero e) = fin false 0 (pos 0)
two_thirds_of (fin true (suc m) e) = nan
two_thirds_of (fin false (suc m) e) = nearest_root false 3 (mag (suc m) e * mag (suc m) e * 2 ^ 149)

-- √(x² + y²); an infinity beside a NaN is an infinity
unfoldable pub hypot_of : Float → Float → Float
unfolding nearest_root
hypot_of (inf s) y = inf false
hypot_of nan nan = nan
hypot_of nan (inf t) = inf false
hypot_of nan (fin t n d) = nan
hypot_of (fin s m e) nan = nan
hypot_of (fin s m e) (inf t) = inf false
hypot_of (fin s m e) (fin t n d) = nearest_root false 2 (mag m e * mag m e + mag n d * mag n d)
