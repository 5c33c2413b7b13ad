-- The record of a line, and a list of words as records, one behind the other. Definitions only.
use Rattle.std.specs.Prelude.{ℕ, zero, suc, ◌+◌, ◌*◌, ◌/◌, Bool, true, false, not, ◌&&◌, ◌||◌, cond, List, [], ◌∷◌, eqb, length, get_or}
use Rattle.std.specs.Float.{binary32}
use Rattle.std.specs.Float.Ieee.{of_bits}
use Rattle.std.specs.Float.Ieee.Scale.{finite}
use Rattle.records.specs.declared.Line.{Line}
use Rattle.records.specs.declared.Counts.{Counts}

-- ---- the form of a record

-- the line from (x, y) to (z, w)
abbrev pub between : ℕ → ℕ → ℕ → ℕ → Line
between x y z w = record { x = x; y = y; z = z; w = w }

-- its six words: the path, the tag that drew it, the x and y of its start, the x and y of its end; each coordinate is an f32 by its bits
abbrev pub record_words : ℕ → ℕ → ℕ → ℕ → ℕ → ℕ → List ℕ
record_words path tag x y z w = path ∷ tag ∷ x ∷ y ∷ z ∷ w ∷ []

-- where record k begins
abbrev pub place_of : ℕ → ℕ
place_of k = k * 6

-- how many whole records the words hold
abbrev pub count : List ℕ → ℕ
count ws = length ws / 6

-- the word at place i of record k: the path at place 0, the tag at 1, the start at 2 and 3, the end at 4 and 5
abbrev pub word : List ℕ → ℕ → ℕ → ℕ
word ws k i = get_or ws (place_of k + i) 0

abbrev pub path_of : List ℕ → ℕ → ℕ
path_of ws k = word ws k 0

-- the line of record k: its words from the start's x to the end's y
abbrev pub line_at : List ℕ → ℕ → Line
line_at ws k = between (word ws k 2) (word ws k 3) (word ws k 4) (word ws k 5)

-- ---- its coordinates as numbers

-- the bits are those of a NaN or an infinity
unfoldable pub is_bad : ℕ → Bool
is_bad w = not (finite (of_bits binary32 w))

-- a coordinate of record k is a NaN or an infinity
unfoldable pub bad_at : List ℕ → ℕ → Bool
bad_at ws k = is_bad (word ws k 2) || (is_bad (word ws k 3) || (is_bad (word ws k 4) || is_bad (word ws k 5)))

-- a coordinate's bits, with -0 written as +0
unfoldable pub key : ℕ → ℕ
key w = cond (eqb w 2147483648) 0 w

-- the line of record k by its keys
abbrev pub keys_at : List ℕ → ℕ → Line
keys_at ws k = between (key (word ws k 2)) (key (word ws k 3)) (key (word ws k 4)) (key (word ws k 5))

-- whether the path q and the coordinates a and b are the path and the point of keys x and y
unfoldable pub is_point : ℕ → ℕ → ℕ → ℕ → ℕ → ℕ → Bool
is_point path x y q a b = eqb q path && (eqb (key a) x && eqb (key b) y)

-- ---- how often a point stands in a list

-- 1 where it holds, else 0
unfoldable pub once : Bool → ℕ
once true = 1
once false = 0

-- 1 where `is` is true of the path of record k and of the two words at its place `at`, else 0: the start is at place 2, the end at place 4
abbrev pub hit_at : (ℕ → ℕ → ℕ → Bool) → ℕ → List ℕ → ℕ → ℕ
hit_at is at ws k = once (is (path_of ws k) (word ws k at) (word ws k (at + 1)))

-- of how many of the first n records that holds
unfoldable pub tally_of : (ℕ → ℕ → ℕ → Bool) → ℕ → List ℕ → ℕ → ℕ
tally_of is at ws zero = 0
tally_of is at ws (suc n) = tally_of is at ws n + hit_at is at ws n

-- how often the point of keys x and y is a start, and how often an end, among the records of a path
abbrev pub starts : List ℕ → ℕ → ℕ → ℕ → ℕ
starts ws path x y = tally_of (is_point path x y) 2 ws (count ws)

abbrev pub ends : List ℕ → ℕ → ℕ → ℕ → ℕ
ends ws path x y = tally_of (is_point path x y) 4 ws (count ws)

-- the same of two points at once
abbrev pub counts_of : List ℕ → ℕ → ℕ → ℕ → ℕ → ℕ → Counts
counts_of ws path x y z w =
    record { starts0 = starts ws path x y; ends0 = ends ws path x y; starts1 = starts ws path z w; ends1 = ends ws path z w }
