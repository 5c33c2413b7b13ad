-- What "the f32 nearest to the k-th root, ties to even" means, without an algorithm. Definitions only; `RootLaws` proves that `nearest_root` is it, and nothing else.
use Rattle.std.specs.Prelude.{◌≡◌, ℕ, ◌+◌, ◌*◌, ◌%◌, ◌^◌, ◌<◌, ◌≤◌, Bool, ◌⊎◌, Float}
use Rattle.std.specs.Float.{binary32}
use Rattle.std.specs.Float.Ieee.{units}

-- q has at most 24 binary digits, and all 24 where the number q * 2 ^ d is not in the lowest place
abbrev pub Kept : ℕ → ℕ → Type 0
Kept q d = (q < 2 ^ 24) × ((d ≡ 0) ⊎ (2 ^ 23 ≤ q))

-- x is below y, or level with it where q is even
abbrev pub Wins : ℕ → ℕ → ℕ → Type 0
Wins x y q = (x < y) ⊎ ((x ≡ y) × (q % 2 ≡ 0))

-- v has the sign s and is q * 2 ^ d units of 2 ^ -149; past the largest f32, `units` makes that the infinity. Against every other number of at most 24 digits,
-- p * 2 ^ c, it wins: the exact root lies on v's side of the middle of the two, or on the middle where q is even.
-- The middle of x and y is below the k-th root of a as (x + y) ^ k is below a * 2 ^ k.
pub record Nearest (s : Bool) (k a : ℕ) (v : Float) : Type 0 where
  pub q : ℕ
  pub d : ℕ
  pub digits : Kept q d
  pub value : v ≡ units binary32 s q d
  pub above_less : (p c : ℕ) → p < 2 ^ 24 → p * 2 ^ c < q * 2 ^ d → Wins ((p * 2 ^ c + q * 2 ^ d) ^ k) (a * 2 ^ k) q
  pub below_more : (p c : ℕ) → p < 2 ^ 24 → q * 2 ^ d < p * 2 ^ c → Wins (a * 2 ^ k) ((p * 2 ^ c + q * 2 ^ d) ^ k) q
