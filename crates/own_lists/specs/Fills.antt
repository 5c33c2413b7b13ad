-- A call that draws closed fills and nothing else, and the list that it leaves. Definitions only.
use Rattle.std.specs.Prelude.{ℕ, ◌+◌, ◌≤◌, ◌<◌, ◌≡◌, ◌⊎◌, List, [], ◌∷◌, ◌++◌, eqb, take}
use Rattle.records.specs.Record.{place_of, once}
use Rattle.checker.specs.Verdict.{Finite}
use Rattle.watertight.specs.Fill.{Call, Accepted, outcome, tags, path_at, drawn_at, Each, Run, Closed}

-- the lines of an accepted call: the records stored, without the words behind them
abbrev pub list_of : (c : Call) → Accepted c → List ℕ
list_of c a = take (place_of a.count) (outcome c).lines

-- some tags: a first one, and those behind it
pub record Outline : Type 0 where
  pub first : ℕ
  pub behind : List ℕ

-- they are a closed run of filled segments, as demand 3 has it, all of one path
pub record ClosedFill (c : Call) (o : Outline) : Type 0 where
  pub run : Run c o.first o.behind
  pub closed : Closed c o.first o.behind
  pub one_path : Each (λ j. path_at c j ≡ path_at c o.first) o.behind

unfoldable pub EachOutline : (Outline → Type 0) → List Outline → Type 0
EachOutline P [] = Unit {0}
EachOutline P (o ∷ os) = P o × EachOutline P os

-- the tags of all outlines
unfoldable pub tags_of : List Outline → List ℕ
tags_of [] = []
tags_of (o ∷ os) = o.first ∷ (o.behind ++ tags_of os)

-- how often i is one of these
unfoldable pub times : ℕ → List ℕ → ℕ
times i [] = 0
times i (j ∷ js) = once (eqb j i) + times i js

-- what is asked of a call whose list shall pass
pub record OnlyClosedFills (c : Call) : Type 0 where
  pub accepted : Accepted c
  pub outlines : List Outline
  pub closed_fills : EachOutline (ClosedFill c) outlines
  -- a tag draws nothing, or belongs to one outline, once
  pub nothing_else : (i : ℕ) → i < tags c → (drawn_at c i ≡ []) ⊎ (times i (tags_of outlines) ≡ 1)
  pub few : accepted.count ≤ 2000
  pub finite : Finite (list_of c accepted)
