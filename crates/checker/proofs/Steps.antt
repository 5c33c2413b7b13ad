-- What the loops of the check lean on. Assumes nothing.
use Prim.Native.Nat.{ℕ, ◌≤◌, ◌<◌}
use mathlib.Core.Path.{◌≡◌}
use mathlib.Core.Bool.{Bool, true, false, not, ◌&&◌}
use mathlib.Core.List.{List}
use native.Mathlib.Omega.{arith}
use lib.Dec.{eqb}
use Rattle.std.proofs.Common.{Option, None, Some, MatchOption, is_some, true≢false, sym}
use Rattle.records.specs.Record.{word, keys_at, counts_of}
use Rattle.records.specs.declared.Line.{Line}
use Rattle.records.specs.declared.Counts.{Counts}
use Rattle.checker.specs.Verdict.{even_point, uneven_at, First}
use Rattle.checker.specs.Search.{Finds}

-- what `find` over a range of numbers says, where its test computes f
pub finds : (f : ℕ → Bool) (n : ℕ) (r : Option ℕ) → MatchOption r ((k : ℕ) → 0 ≤ k → k < n → f k ≡ false) (λ i. (0 ≤ i) × (i < n) × (f i ≡ true) × ((k : ℕ) → 0 ≤ k → k < i → f k ≡ false)) → Finds f n r
finds f n None h = λ k l. h k (omega arith) l
finds f n (Some i) h = record { within = h.1; here = h.2; none = λ k l. h.3 k (omega arith) l }

-- what it found, by the test whether it did
pub found : (f : ℕ → Bool) (n : ℕ) (r : Option ℕ) → Finds f n r → is_some r ≡ true → (k : ℕ) × First f n k
found f n None h e = absurd (true≢false (sym e))
found f n (Some k) h e = (k, h)

pub not_found : (f : ℕ → Bool) (n : ℕ) (r : Option ℕ) → Finds f n r → is_some r ≡ false → (k : ℕ) → k < n → f k ≡ false
not_found f n None h e = h
not_found f n (Some k) h e = absurd (true≢false e)

pub uneven_record : (ws : List ℕ) (k : ℕ) {p : ℕ} {l : Line} {c : Counts} → p ≡ word ws k 0 → l ≡ keys_at ws k
    → c ≡ counts_of ws p l.x l.y l.z l.w → not (eqb c.starts0 c.ends0 && eqb c.starts1 c.ends1) ≡ uneven_at ws k
unfolding uneven_at even_point
uneven_record ws k e f g = rw (g, e, f)
