-- How often a device point is the start of a line and how often an end, +0 and -0 being one. Definitions only.
use Rattle.std.specs.Prelude.{ℕ, Bool, ◌&&◌, List, eqb}
use Rattle.std.specs.Float.{binary32}
use Rattle.std.specs.Float.Ieee.{to_bits}
use Rattle.records.specs.Record.{key, once}
use Rattle.spiral.specs.Util.{eq_of}
use Rattle.spiral.specs.declared.util.Vec2.{Vec2}
use Rattle.drawing.specs.Sheet.{Event}
use Rattle.watertight.specs.Count.{starts_by, ends_by}

-- the two words, -0 taken for +0, are x and y, whatever the path
abbrev pub keys_are : ℕ → ℕ → ℕ → ℕ → ℕ → Bool
keys_are x y path a b = eqb (key a) x && eqb (key b) y

-- 1 where the point's bits, so taken, are x and y, else 0
abbrev pub is_at : ℕ → ℕ → Vec2 → ℕ
is_at x y p = once (eqb (key (to_bits binary32 p.x)) x && eqb (key (to_bits binary32 p.y)) y)

-- how many lines start there, and how many end there
abbrev pub starts : ℕ → ℕ → List Event → ℕ
starts x y es = starts_by (is_at x y) es

abbrev pub ends : ℕ → ℕ → List Event → ℕ
ends x y es = ends_by (is_at x y) es

-- the same said of numbers: how many lines start at a point that equals q, and how many end there
abbrev pub starts_at : Vec2 → List Event → ℕ
starts_at q es = starts_by (λ p. once (eq_of p q)) es

abbrev pub ends_at : Vec2 → List Event → ℕ
ends_at q es = ends_by (λ p. once (eq_of p q)) es
