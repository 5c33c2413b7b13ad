-- How records that stand behind others are counted. Assumes nothing.
use Prim.Native.Nat.{ℕ, zero, suc, ◌+◌, ◌-◌, ◌≤◌, ◌<◌}
use Rattle.std.specs.Prelude.{◌≡◌, Bool, List, length, get_or, take, drop}
use Rattle.std.proofs.Math.Path.{refl}
use Rattle.std.proofs.Common.{sym, ap, ◌∙◌, get_or-take, get_or-drop}
use native.Mathlib.Omega.{arith}
use Rattle.std.proofs.Math.ListN.{get_or-eq_default}
use Rattle.records.specs.Record.{place_of, count, word, tally_of}

-- behind the last word there are zeros
pub past_end : (ws : List ℕ) (k i : ℕ) → length ws - place_of k ≤ i → 0 ≡ word ws k i
past_end ws k i h = sym (get_or-eq_default ws 0 {n = place_of k + i} (omega arith))

pub past_count : (ws : List ℕ) (k i : ℕ) → count ws < k → 0 ≡ word ws k i
past_count ws k i h = past_end ws k i (omega arith)

-- the record k behind the first n is the record n + k
word_behind : (ws : List ℕ) (n k i : ℕ) → word (drop (place_of n) ws) k i ≡ word ws (n + k) i
word_behind ws n k i =
    let at : place_of n + (place_of k + i) ≡ place_of (n + k) + i = omega arith in
    get_or-drop (place_of n) ws (place_of k + i) 0 ∙ ap (λ (j : ℕ). get_or ws j 0) at

pub word_among : (ws : List ℕ) (n k i : ℕ) → k < n → i < 6 → word (take (place_of n) ws) k i ≡ word ws k i
word_among ws n k i h l = get_or-take (place_of n) ws (place_of k + i) 0 (omega arith)

module _ (is : ℕ → ℕ → ℕ → Bool) (at : ℕ) (ws : List ℕ) where
  -- the first n records, and then the m behind them
  pub tally_behind : (n m : ℕ) → tally_of is at ws (n + m) ≡ tally_of is at ws n + tally_of is at (drop (place_of n) ws) m
  unfolding tally_of
  tally_behind n zero = let e : n + 0 ≡ n = omega arith in rw e (omega arith)
  tally_behind n (suc m) =
      let h = tally_behind n m in
      let e : n + suc m ≡ suc (n + m) = omega arith in
      rw (e, word_behind ws n m 0, word_behind ws n m at, word_behind ws n m (at + 1)) (omega (arith, h))

  -- words behind the records that are counted do not matter
  pub tally_among : (n m : ℕ) → m ≤ n → at < 5 → tally_of is at (take (place_of n) ws) m ≡ tally_of is at ws m
  unfolding tally_of
  tally_among n zero h l = refl
  tally_among n (suc m) h l =
      let e = tally_among n m (omega arith) l in
      rw (word_among ws n m 0 (omega arith) (omega arith), word_among ws n m at (omega arith) (omega arith), word_among ws n m (at + 1) (omega arith) (omega arith), e)
