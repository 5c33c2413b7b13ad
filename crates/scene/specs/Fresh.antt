-- A fresh scan, and the sums over tags one by one. Definitions only.
use Rattle.std.specs.Prelude.{◌≡◌, ℕ, zero, suc, ◌/◌, ◌%◌, List, slice_index}
use Rattle.scene.specs.Tags.{sums, tag_sums, plus, byte_at, scan_of}
use Rattle.scene.specs.declared.tags.PathMonoid.{PathMonoid}

-- tag i of these tag words
unfoldable pub byte_of : List ℕ → ℕ → ℕ
byte_of tags i = byte_at (slice_index tags (i / 4)) (i % 4)

-- the sums over the tags before tag i
unfoldable pub sums_to : List ℕ → ℕ → PathMonoid
sums_to tags zero = sums 0 0 0 0
sums_to tags (suc i) = plus (sums_to tags i) (tag_sums (byte_of tags i))

-- the prefixes are what a scan of the scene's tags left in some lent words
pub record Fresh (scene : List ℕ) (base : ℕ) (prefixes : List ℕ) : Type 0 where
  pub lent : List ℕ
  pub scanned : prefixes ≡ (scan_of scene base lent).words
