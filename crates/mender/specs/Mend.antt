-- When a path has one gap, when it is mended, and the line that closes the gap. Definitions only.
use Rattle.std.specs.Prelude.{ℕ, ◌+◌, ◌≡◌, List}
use Rattle.records.specs.Record.{record_words, starts, ends}
use Rattle.mender.specs.Near.{Near}
use Rattle.mender.specs.declared.cases.Case.{Case}
use Rattle.mender.specs.declared.cases.Case.TheVariants.{Sound, Mended, NotMended}

-- every point of the path is a start as often as an end
abbrev pub BalancedIn : List ℕ → ℕ → Type 0
BalancedIn ws p = (a b : ℕ) → starts ws p a b ≡ ends ws p a b

-- in the path p the point of keys x and y is an end once more than a start, the point of keys z and w a start once more than an end, and no other is out of balance
pub record Gap (ws : List ℕ) (p x y z w : ℕ) : Type 0 where
  pub over : ends ws p x y ≡ starts ws p x y + 1
  pub under : starts ws p z w ≡ ends ws p z w + 1
  pub others : (a b : ℕ) → ((x ≡ a) × (y ≡ b) → ⊥) → ((z ≡ a) × (w ≡ b) → ⊥) → starts ws p a b ≡ ends ws p a b

-- and the two differ by at most t units in x and in y
pub record Mendable (ws : List ℕ) (t p x y z w : ℕ) : Type 0 where
  pub gap : Gap ws p x y z w
  pub near_x : Near t x z
  pub near_y : Near t y w

-- the record of the line that is appended: from the first point to the second
abbrev pub line_of : ℕ → ℕ → ℕ → ℕ → ℕ → List ℕ
line_of p x y z w = record_words p 4294967295 x y z w

-- which of the three is the case of the path p
unfoldable pub IsCase : List ℕ → ℕ → ℕ → Case → Type 0
IsCase ws t p Sound = BalancedIn ws p
IsCase ws t p (Mended g) = Mendable ws t p g.x g.y g.z g.w
IsCase ws t p NotMended = (BalancedIn ws p → ⊥) × ((x y z w : ℕ) → Mendable ws t p x y z w → ⊥)
