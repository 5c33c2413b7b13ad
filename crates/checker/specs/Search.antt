-- Where a search for the first record of which f holds stops: there, or behind the last of n. Definitions only.
use Rattle.std.specs.Prelude.{Option, None, Some, ℕ, ◌≤◌, ◌<◌, ◌≡◌, Bool, true, false}
use Rattle.checker.specs.Verdict.{First}

pub record Stop (f : ℕ → Bool) (n k : ℕ) : Type 0 where
  pub within : k ≤ n
  pub none : (j : ℕ) → j < k → f j ≡ false
  pub here : k < n → f k ≡ true

-- what it finds among n: the first of which f holds, or none
abbrev pub Finds : (ℕ → Bool) → ℕ → Option ℕ → Type 0
Finds f n None = (k : ℕ) → k < n → f k ≡ false
Finds f n (Some k) = First f n k
