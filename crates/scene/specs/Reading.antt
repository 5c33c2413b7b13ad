-- What a tag's segment, transform and style are in a scene. Definitions only.
use Rattle.std.specs.Prelude.{ℕ, zero, suc, ◌+◌, ◌-◌, ◌*◌, ◌/◌, ◌%◌, ◌^◌, max, Bool, true, false, cond, ◌&&◌, List, [], ◌∷◌, length, pos, ◌==◌, from_bits, nat_le, nat_lt, slice_index, Float, Ok, Err}
use Rattle.std.specs.List.{list_all}
use Rattle.std.specs.Float.{binary32}
use Rattle.std.specs.Float.Ieee.{of_int, neg}
use Rattle.std.specs.Float.Ieee.Scale.{finite}
use Rattle.laws.specs.Binary32.{◌⊘◌, whole}
use Rattle.spiral.specs.Util.{new_of, mix_of}
use Rattle.spiral.specs.declared.util.Vec2.{Vec2}
use Rattle.refusals.specs.Refusals.{Read}
use Rattle.refusals.specs.declared.Refusal.TheVariants.{Outside}
use Rattle.scene.specs.Words.{word_at}
use Rattle.scene.specs.Tags.{bit}

-- ---- points

abbrev pub float_at : List ℕ → ℕ → Float
float_at ws at = from_bits binary32 (slice_index ws at)

-- two words
unfoldable pub f32_point : List ℕ → ℕ → Vec2
f32_point ws at = new_of (float_at ws at) (float_at ws (at + 1))

-- 16 bits as a whole number, two's complement: from 0x8000 on it is below zero
unfoldable pub i16_of : ℕ → Float
i16_of half = cond (nat_lt half 0x8000) (of_int binary32 (pos half)) (neg (of_int binary32 (pos (0x10000 - half))))

-- one word, x in its low half
unfoldable pub i16_point : List ℕ → ℕ → Vec2
i16_point ws at = new_of (i16_of (slice_index ws at % 0x10000)) (i16_of (slice_index ws at / 0x10000))

-- whether a tag's points are f32
abbrev pub wide : ℕ → Bool
wide tag = bit tag 0x08 == 1

unfoldable pub point_words : Bool → ℕ
point_words true = 2
point_words false = 1

unfoldable pub point_at : Bool → List ℕ → ℕ → Vec2
point_at true ws at = f32_point ws at
point_at false ws at = i16_point ws at

-- ---- segments, as cubics

abbrev third : Float
third = whole 1 ⊘ whole 3

unfoldable pub line_cubic : Vec2 → Vec2 → List Vec2
line_cubic p0 p1 = p0 ∷ mix_of p0 p1 third ∷ mix_of p1 p0 third ∷ p1 ∷ []

unfoldable pub quad_cubic : Vec2 → Vec2 → Vec2 → List Vec2
quad_cubic p0 p1 p2 = p0 ∷ mix_of p1 p0 third ∷ mix_of p1 p2 third ∷ p2 ∷ []

abbrev pub origin : Vec2
origin = new_of (whole 0) (whole 0)

-- a quad that ends a stroked subpath only marks where its caps go: the line between its last two points
abbrev pub marker : ℕ → Bool → Bool
marker tag stroke = stroke && bit tag 0x04 == 1

-- two points are read where there is no type
unfoldable pub point_count : ℕ → ℕ
point_count kind = max (kind + 1) 2

-- the points p of a segment, by its type
unfoldable pub raised : ℕ → Bool → (ℕ → Vec2) → List Vec2
raised zero mark p = p 0 ∷ p 1 ∷ origin ∷ origin ∷ []
raised (suc zero) mark p = line_cubic (p 0) (p 1)
raised (suc (suc zero)) true p = line_cubic (p 1) (p 2)
raised (suc (suc zero)) false p = quad_cubic (p 0) (p 1) (p 2)
raised (suc (suc (suc k))) mark p = p 0 ∷ p 1 ∷ p 2 ∷ p 3 ∷ []

unfoldable pub cubic_of : ℕ → Bool → List ℕ → Bool → ℕ → List Vec2
cubic_of kind mark ws w at = raised kind mark (λ j. point_at w ws (at + j * point_words w))

-- the address of the last point is a u32 sum, and the words of all lie inside
unfoldable pub reaches : ℕ → Bool → ℕ → List ℕ → ℕ → Bool
reaches kind w offset scene base =
    nat_lt (offset + (point_count kind - 1) * point_words w) (2 ^ 32) && nat_le (base + offset + point_count kind * point_words w) (length scene)

unfoldable pub segment_of : ℕ → Bool → ℕ → List ℕ → ℕ → Read (List Vec2)
segment_of tag stroke offset scene base =
    cond (reaches (tag % 4) (wide tag) offset scene base)
    (Ok (cubic_of (tag % 4) (marker tag stroke) scene (wide tag) (base + offset)))
    (Err Outside)

-- ---- transforms and styles

unfoldable pub floats_at : List ℕ → ℕ → List Float
floats_at ws at = float_at ws at ∷ float_at ws (at + 1) ∷ float_at ws (at + 2) ∷ float_at ws (at + 3) ∷ float_at ws (at + 4) ∷ float_at ws (at + 5) ∷ []

-- the address is a u32 product and sum
unfoldable pub transform_of : List ℕ → ℕ → ℕ → Read (List Float)
transform_of scene base ix =
    cond (nat_lt (base + ix * 6) (2 ^ 32) && nat_le (base + ix * 6 + 6) (length scene)) (Ok (floats_at scene (base + ix * 6))) (Err Outside)

-- whether each number of a list is neither a NaN nor an infinity
unfoldable pub all_finite : List Float → Bool
all_finite z = list_all finite z

-- the address of a style's flags wraps
unfoldable pub flags_of : List ℕ → ℕ → ℕ → Read ℕ
flags_of scene base ix = word_at scene ((base + ix) % 2 ^ 32)

-- that of its line width does not
unfoldable pub width_of : List ℕ → ℕ → ℕ → Read ℕ
width_of scene base ix = cond (nat_lt (base + ix + 1) (2 ^ 32)) (word_at scene (base + ix + 1)) (Err Outside)
