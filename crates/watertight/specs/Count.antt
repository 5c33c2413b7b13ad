-- How often a device point, by its bits, is the start of a line and how often an end. Definitions only.
use Rattle.std.specs.Prelude.{ℕ, ◌+◌, Bool, ◌&&◌, List, [], ◌∷◌, eqb}
use Rattle.std.specs.Float.{binary32}
use Rattle.std.specs.Float.Ieee.{to_bits}
use Rattle.records.specs.Record.{once}
use Rattle.spiral.specs.declared.util.Vec2.{Vec2}
use Rattle.drawing.specs.Sheet.{Event, line, no_count, no_join}

-- the sum of what f gives for the start of each line
unfoldable pub starts_by : (Vec2 → ℕ) → List Event → ℕ
starts_by f [] = 0
starts_by f (line p q ∷ es) = f p + starts_by f es
starts_by f (no_count ∷ es) = starts_by f es
starts_by f (no_join ∷ es) = starts_by f es

-- and for its end
unfoldable pub ends_by : (Vec2 → ℕ) → List Event → ℕ
ends_by f [] = 0
ends_by f (line p q ∷ es) = f q + ends_by f es
ends_by f (no_count ∷ es) = ends_by f es
ends_by f (no_join ∷ es) = ends_by f es

-- 1 where it holds of the path and of the point's bits, else 0
abbrev pub one_where : (ℕ → ℕ → ℕ → Bool) → ℕ → Vec2 → ℕ
one_where is path p = once (is path (to_bits binary32 p.x) (to_bits binary32 p.y))

-- the two words are x and y, whatever the path
abbrev pub bits_are : ℕ → ℕ → ℕ → ℕ → ℕ → Bool
bits_are x y path a b = eqb a x && eqb b y

-- 1 where the point's bits are the words x and y, else 0
abbrev pub is_at : ℕ → ℕ → Vec2 → ℕ
is_at x y p = once (eqb (to_bits binary32 p.x) x && eqb (to_bits binary32 p.y) y)

abbrev pub starts : ℕ → ℕ → List Event → ℕ
starts x y = starts_by (is_at x y)

abbrev pub ends : ℕ → ℕ → List Event → ℕ
ends x y = ends_by (is_at x y)
