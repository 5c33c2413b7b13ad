-- The refusals with the scope paper's numbers, and what a read says in numbers. Definitions only.
use Rattle.std.specs.Prelude.{ℕ, List, [], ◌∷◌, Result, Ok, Err}
use Rattle.refusals.specs.declared.LineEnd.TheVariants.{Start, End}
use Rattle.refusals.specs.declared.Refusal.{Refusal}
use Rattle.refusals.specs.declared.Refusal.TheVariants.{BadBase, Outside, NoPrefix, NoBox, NotNumber, NoRoom, NoJoin, NoCount, BadTransform}

-- 0 is no refusal
unfoldable pub number_of : Refusal → ℕ
number_of BadBase = 1
number_of Outside = 2
number_of NoPrefix = 3
number_of NoBox = 4
number_of (NotNumber at) = 5
number_of NoRoom = 6
number_of NoJoin = 7
number_of NoCount = 8
number_of BadTransform = 9

-- which end of a line is no number: 1 the start, 2 the end; 0 where that is not why
unfoldable pub end_of : Refusal → ℕ
end_of BadBase = 0
end_of Outside = 0
end_of NoPrefix = 0
end_of NoBox = 0
end_of (NotNumber Start) = 1
end_of (NotNumber End) = 2
end_of NoRoom = 0
end_of NoJoin = 0
end_of NoCount = 0
end_of BadTransform = 0

-- what is read: what was found, or why there is nothing
abbrev pub Read : Type 0 → Type 0
Read A = Result A Refusal

-- an answer's number, the end of the line that it stopped at, and its values
pub record Told (A : Type 0) : Type 0 where
  pub number : ℕ
  pub end : ℕ
  pub values : List A

unfoldable pub told : {A : Type 0} → Read A → Told A
told (Ok a) = record { number = 0; end = 0; values = a ∷ [] }
told (Err why) = record { number = number_of why; end = end_of why; values = [] }
