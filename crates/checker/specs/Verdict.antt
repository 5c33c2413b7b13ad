-- When a list of line records is sound, and what the check answers. Definitions only.
use Rattle.std.specs.Prelude.{Result, Ok, Err, ℕ, ◌%◌, ◌≤◌, ◌<◌, ◌≡◌, Bool, true, false, not, ◌&&◌, List, eqb, length}
use Rattle.records.specs.Record.{count, word, path_of, key, bad_at, starts, ends}
use Rattle.checker.specs.declared.Told.{Told}
use Rattle.checker.specs.declared.Verdict.{Verdict}
use Rattle.checker.specs.declared.Verdict.TheVariants.{Sound, BadNumber, Unbalanced}
use Rattle.checker.specs.declared.CheckError.{CheckError}
use Rattle.checker.specs.declared.CheckError.TheVariants.{TooMany, Leftover}

-- ---- a sound list

-- no coordinate is a NaN or an infinity
abbrev pub Finite : List ℕ → Type 0
Finite ws = (k : ℕ) → k < count ws → bad_at ws k ≡ false

-- for each path number separately, every point, by its keys, is a start as often as an end
abbrev pub Balanced : List ℕ → Type 0
Balanced ws = (path x y : ℕ) → starts ws path x y ≡ ends ws path x y

pub record SoundList (ws : List ℕ) : Type 0 where
  pub finite : Finite ws
  pub balanced : Balanced ws

-- ---- the record that a no names

-- whether a point of the path is a start as often as an end
unfoldable pub even_point : List ℕ → ℕ → ℕ → ℕ → Bool
even_point ws path x y = eqb (starts ws path x y) (ends ws path x y)

-- the key of the coordinate at place i of record k
abbrev pub key_at : List ℕ → ℕ → ℕ → ℕ
key_at ws k i = key (word ws k i)

-- whether the start or the end of record k is out of balance in its path
unfoldable pub uneven_at : List ℕ → ℕ → Bool
uneven_at ws k = not (even_point ws (path_of ws k) (key_at ws k 2) (key_at ws k 3) && even_point ws (path_of ws k) (key_at ws k 4) (key_at ws k 5))

-- of n records, k is the first of which f holds
pub record First (f : ℕ → Bool) (n k : ℕ) : Type 0 where
  pub within : k < n
  pub here : f k ≡ true
  pub none : (j : ℕ) → j < k → f j ≡ false

-- ---- the answer

-- not refused: at most 2,000 records, and no word behind them
pub record Taken (ws : List ℕ) : Type 0 where
  pub few : count ws ≤ 2000
  pub whole : length ws % 6 ≡ 0

-- that a verdict or a refusal is the answer to the list
unfoldable pub Answers : List ℕ → Result Verdict CheckError → Type 0
Answers ws (Ok Sound) = Taken ws × SoundList ws
Answers ws (Ok (BadNumber k)) = Taken ws × First (bad_at ws) (count ws) k
Answers ws (Ok (Unbalanced k)) = Taken ws × Finite ws × First (uneven_at ws) (count ws) k
Answers ws (Err TooMany) = 2000 < count ws
Answers ws (Err Leftover) = (count ws ≤ 2000) × (length ws % 6 ≡ 0 → ⊥)

-- the verdict in numbers: 0 or the refusal's; 1 for a bad number, 2 for an end out of balance; the record
abbrev pub says : ℕ → ℕ → ℕ → Told
says number verdict k = record { number = number; verdict = verdict; «record» = k }

abbrev pub verdict_told : Verdict → Told
verdict_told Sound = says 0 0 0
verdict_told (BadNumber k) = says 0 1 k
verdict_told (Unbalanced k) = says 0 2 k

abbrev pub number_of : CheckError → ℕ
number_of TooMany = 50
number_of Leftover = 51

unfoldable pub told_of : Result Verdict CheckError → Told
told_of (Ok v) = verdict_told v
told_of (Err e) = says (number_of e) 0 0
