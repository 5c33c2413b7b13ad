-- The sheet of one path: its tags, its points, one transform and one fill style, and the room that it takes. Definitions only.
use Rattle.std.specs.Prelude.{ℕ, zero, suc, ◌+◌, ◌*◌, ◌/◌, ◌^◌, Bool, ◌&&◌, cond, List, [], ◌∷◌, ◌++◌, ltb, leb, length, get_or, drop, Option, Some, None, Result, Ok, Err}
use Rattle.flatten.specs.declared.call.Layout.{Layout}
use Rattle.svg.specs.declared.hand.Six.{Six}

-- ---- its words

-- a transform tag, a style tag, what was drawn, a path tag
unfoldable pub tag_bytes : List ℕ → List ℕ
tag_bytes drawn = 0x20 ∷ 0x40 ∷ (drawn ++ (0x10 ∷ []))

-- the four tags of word k, the first in its lowest byte; behind the path tag zeros
unfoldable pub tag_word : List ℕ → ℕ → ℕ
tag_word drawn k =
    let byte : ℕ → ℕ = λ j. get_or (tag_bytes drawn) (k * 4 + j) 0 in
    byte 0 + byte 1 * 0x100 + byte 2 * 0x10000 + byte 3 * 0x1000000

-- the first n words
unfoldable pub packed : List ℕ → ℕ → List ℕ
packed drawn zero = []
packed drawn (suc n) = packed drawn n ++ (tag_word drawn n ∷ [])

-- the workgroups of n drawn tags and the three others: 256 tags each
unfoldable pub groups : ℕ → ℕ
groups n = (n + 3 + 255) / 256

-- and their words
unfoldable pub tag_words : ℕ → ℕ
tag_words n = groups n * 64

abbrev pub six_of : Six → List ℕ
six_of z = z.a ∷ z.b ∷ z.c ∷ z.d ∷ z.e ∷ z.f ∷ []

-- the flags of a fill by the nonzero rule, and no width
abbrev pub fill_style : List ℕ
fill_style = 0 ∷ 0 ∷ []

-- the tags, the points, the six words of the transform, and the style
unfoldable pub sheet_of : List ℕ → List ℕ → List ℕ → List ℕ
sheet_of drawn points six = packed drawn (tag_words (length drawn)) ++ (points ++ (six ++ fill_style))

-- where they begin: w words of tags, m of points
unfoldable pub layout_by : ℕ → ℕ → Layout
layout_by w m = record { n_wg = w / 64; tag_base = 0; data_base = w; transform_base = w + m; style_base = w + m + 6 }

abbrev pub layout_of : ℕ → ℕ → Layout
layout_of n m = layout_by (tag_words n) m

-- ---- its room

-- how many words it takes
unfoldable pub size_of : ℕ → ℕ → ℕ
size_of n m = tag_words n + m + 8

-- where they are less than 2^31
unfoldable pub small_size : ℕ → ℕ → Option ℕ
small_size n m = cond (ltb (size_of n m) (2 ^ 31)) (Some (size_of n m)) None

-- 0 where they are 2^31 or more
unfoldable pub size_told : ℕ → ℕ → ℕ
size_told n m = cond (ltb (size_of n m) (2 ^ 31)) (size_of n m) 0

unfoldable pub fits : ℕ → ℕ → ℕ → Bool
fits n m room = ltb (size_of n m) (2 ^ 31) && leb (size_of n m) room

-- where its parts stand, or how many words it takes
abbrev pub Laid : Type 0
Laid = Result Layout ℕ

-- the answer, and the scene afterwards
pub record Lay : Type 0 where
  pub answer : Laid
  pub scene : List ℕ

abbrev pub laid : Laid → List ℕ → Lay
laid r scene = record { answer = r; scene = scene }

unfoldable pub lay_of : List ℕ → List ℕ → List ℕ → List ℕ → Lay
lay_of drawn points six scene =
    cond (fits (length drawn) (length points) (length scene))
    (laid (Ok (layout_of (length drawn) (length points))) (sheet_of drawn points six ++ drop (size_of (length drawn) (length points)) scene))
    (laid (Err (size_told (length drawn) (length points))) scene)
