-- The form of a file: `IN;`, then chains, each one `PU` and at least one `PD`. Definitions only.
use Rattle.std.specs.Prelude.{◌≡◌, Bool, true, false, List, [], ◌∷◌, ◌++◌, ℕ, suc, ◌≤◌, ℤ, pos, negsuc}
use Prim.{Unit}
use Rattle.hpgl.specs.Text.{numeral}
use Rattle.hpgl.specs.declared.Point.{Point}
use Rattle.hpgl.specs.declared.Table.{Table}
use Rattle.hpgl.specs.declared.Table.TheVariants.{Old, New}

pub record Line : Type 0 where
  pub from : Point
  pub to : Point

-- the start, the first end and the ends behind it
pub record Chain : Type 0 where
  pub start : Point
  pub first : Point
  pub more : List Point

-- the pen up, or down
pub data Pen : Type 0 where
  up : Pen
  down : Pen

abbrev pub letter : Pen → ℕ
letter up = 85
letter down = 68

-- a command, with the bytes behind it: P, its letter, x, a comma, y, a semicolon
unfoldable pub command : Pen → Point → List ℕ → List ℕ
command k p rest = 80 ∷ letter k ∷ (numeral p.x ++ (44 ∷ (numeral p.y ++ (59 ∷ rest))))

-- a PD to each point
unfoldable pub downs : List Point → List ℕ → List ℕ
downs [] rest = rest
downs (p ∷ ps) rest = command down p (downs ps rest)

unfoldable pub chains_text : List Chain → List ℕ
chains_text [] = []
chains_text (c ∷ cs) = command up c.start (downs (c.first ∷ c.more) (chains_text cs))

unfoldable pub file_text : List Chain → List ℕ
file_text cs = 73 ∷ 78 ∷ 59 ∷ chains_text cs

-- ---- the lines that the chains draw
unfoldable pub along : Point → List Point → List Line → List Line
along q [] rest = rest
along q (p ∷ ps) rest = record { from = q; to = p } ∷ along p ps rest

unfoldable pub lines_of : List Chain → List Line
lines_of [] = []
lines_of (c ∷ cs) = along c.start (c.first ∷ c.more) (lines_of cs)

-- ---- closed chains

-- where points lead
unfoldable pub end_of : Point → List Point → Point
end_of q [] = q
end_of q (p ∷ ps) = end_of p ps

-- each ends where it began
unfoldable pub AllClosed : List Chain → Type 0
AllClosed [] = Unit {0}
AllClosed (c ∷ cs) = (end_of c.start (c.first ∷ c.more) ≡ c.start) × AllClosed cs

-- ---- a table's range: how far below zero, and how far above
pub record Range : Type 0 where
  pub below : ℕ
  pub above : ℕ

-- the two tables
unfoldable pub range_of : Table → Range
range_of Old = record { below = 32767; above = 32767 }
range_of New = record { below = 8388608; above = 8388607 }

-- the largest size of a number with that sign
abbrev pub most : Range → Bool → ℕ
most r true = r.below
most r false = r.above

unfoldable pub Within : Range → ℤ → Type 0
Within r (pos n) = n ≤ r.above
Within r (negsuc n) = suc n ≤ r.below

pub record Inside (r : Range) (p : Point) : Type 0 where
  pub x : Within r p.x
  pub y : Within r p.y

unfoldable pub AllInside : Range → List Point → Type 0
AllInside r [] = Unit {0}
AllInside r (p ∷ ps) = Inside r p × AllInside r ps

unfoldable pub Fits : Range → List Chain → Type 0
Fits r [] = Unit {0}
Fits r (c ∷ cs) = Inside r c.start × AllInside r (c.first ∷ c.more) × Fits r cs
