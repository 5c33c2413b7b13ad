-- What tags add to the four running sums, a tag's own values, and the prefixes that the scan fills. Definitions only.
use Rattle.std.specs.Prelude.{ℕ, zero, suc, ◌+◌, ◌-◌, ◌*◌, ◌/◌, ◌%◌, ◌^◌, min, Bool, true, false, cond, List, [], ◌∷◌, ◌++◌, length, drop, ◌==◌, nat_le, nat_lt, slice_index, Option, Some, None, Ok, Err}
use Rattle.refusals.specs.Refusals.{number_of, Read}
use Rattle.refusals.specs.declared.Refusal.TheVariants as refusal
use Rattle.scene.specs.Words.{word_at}
use Rattle.scene.specs.declared.tags.PathMonoid.{PathMonoid}
use Rattle.scene.specs.declared.tags.PathTagData.{PathTagData}

-- ---- sums

abbrev pub sums : ℕ → ℕ → ℕ → ℕ → PathMonoid
sums path transform style words =
    record { path_ix = path; trans_ix = transform; style_ix = style; pathseg_offset = words }

abbrev pub bit : ℕ → ℕ → ℕ
bit tag mask = tag / mask % 2

-- path 1, transform 1, style 2; and data words, the type and the subpath end together, doubled for f32 points
unfoldable pub tag_sums : ℕ → PathMonoid
tag_sums tag = sums (bit tag 0x10) (bit tag 0x20) (bit tag 0x40 * 2) ((tag % 4 + bit tag 0x04) * (1 + bit tag 0x08))

-- field by field, modulo 2^32
unfoldable pub plus : PathMonoid → PathMonoid → PathMonoid
plus a b =
    sums ((a.path_ix + b.path_ix) % 2 ^ 32) ((a.trans_ix + b.trans_ix) % 2 ^ 32)
    ((a.style_ix + b.style_ix) % 2 ^ 32) ((a.pathseg_offset + b.pathseg_offset) % 2 ^ 32)

-- a word holds four tags, the first in its lowest byte
unfoldable pub byte_at : ℕ → ℕ → ℕ
byte_at word place = word / 2 ^ (8 * place) % 256

-- the sums over the tags before a place of a word
unfoldable pub sums_below : ℕ → ℕ → PathMonoid
sums_below word zero = sums 0 0 0 0
sums_below word (suc place) = plus (sums_below word place) (tag_sums (byte_at word place))

unfoldable pub word_sums : ℕ → PathMonoid
word_sums word = sums_below word 4

-- ---- a tag's own values

-- n less, wrapping below zero
abbrev pub less : ℕ → ℕ → ℕ
less a n = (a + (2 ^ 32 - n)) % 2 ^ 32

-- the sums before the tag, then transform one less and style two less
unfoldable pub tag_data : ℕ → PathMonoid → PathTagData
tag_data byte before =
    record {
      tag_byte = byte;
      monoid = sums before.path_ix (less before.trans_ix 1) (less before.style_ix 2) before.pathseg_offset;
    }

-- a prefix is four words: path, transform, style, data
unfoldable pub prefix_at : List ℕ → ℕ → Option PathMonoid
prefix_at lent i =
    cond (nat_lt i (length lent / 4))
    (Some (sums (slice_index lent (i * 4)) (slice_index lent (i * 4 + 1)) (slice_index lent (i * 4 + 2)) (slice_index lent (i * 4 + 3))))
    None

-- a zero byte skips the prefix
unfoldable pub with_prefix : ℕ → PathMonoid → Bool → Option PathMonoid → Read PathTagData
with_prefix byte below true prefix = Ok (tag_data byte below)
with_prefix byte below false (Some before) = Ok (tag_data byte (plus before below))
with_prefix byte below false None = Err refusal.NoPrefix

unfoldable pub tag_in : Read ℕ → ℕ → Option PathMonoid → Read PathTagData
tag_in (Ok word) place prefix = with_prefix (byte_at word place) (sums_below word place) (byte_at word place == 0) prefix
tag_in (Err why) place prefix = Err why

-- the tag at an index: its word is read first, then the word's prefix
unfoldable pub tag_of : List ℕ → ℕ → List ℕ → ℕ → Read PathTagData
tag_of scene base lent ix = tag_in (word_at scene (base + ix / 4)) (ix % 4) (prefix_at lent (ix / 4))

-- ---- the scan

-- the sums over the tag words before word i
unfoldable pub sums_before : List ℕ → ℕ → PathMonoid
sums_before tags zero = sums 0 0 0 0
sums_before tags (suc i) = plus (sums_before tags i) (word_sums (slice_index tags i))

abbrev pub four_words : PathMonoid → List ℕ
four_words s = s.path_ix ∷ s.trans_ix ∷ s.style_ix ∷ s.pathseg_offset ∷ []

-- the first n prefixes
unfoldable pub prefixes : List ℕ → ℕ → List ℕ
prefixes tags zero = []
prefixes tags (suc n) = prefixes tags n ++ four_words (sums_before tags n)

-- the number of the refusal or 0, how many prefixes were filled, and the lent words afterwards
pub record Scan : Type 0 where
  pub number : ℕ
  pub count : ℕ
  pub words : List ℕ

unfoldable pub scan_told : Read ℕ → List ℕ → Scan
scan_told (Ok n) ws = record { number = 0; count = n; words = ws }
scan_told (Err why) ws = record { number = number_of why; count = 0; words = ws }

unfoldable pub filled : List ℕ → ℕ → List ℕ → Scan
filled tags n lent = record { number = 0; count = n; words = prefixes tags n ++ drop (n * 4) lent }

-- as many whole prefixes as are lent and as there are words from the base on
unfoldable pub scan_of : List ℕ → ℕ → List ℕ → Scan
scan_of scene base lent =
    cond (nat_le base (length scene))
    (filled (drop base scene) (min (length scene - base) (length lent / 4)) lent)
    (record { number = number_of refusal.BadBase; count = 0; words = lent })
