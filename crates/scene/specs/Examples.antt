-- A worked example, which antt computes from the definitions; those of the scope paper stand in crate `examples`. Assumes nothing.
use Rattle.std.specs.Prelude.{◌≡◌, ℕ, ◌+◌, List, [], ◌∷◌, ◌++◌, replicate, refl, Ok, Err}
use Rattle.scene.specs.Words.{word_at}
use Rattle.scene.specs.Tags.{sums, tag_sums, plus, byte_at, sums_below, word_sums, tag_data, prefix_at, with_prefix, tag_in, tag_of, sums_before, prefixes, filled, scan_of}
use Rattle.scene.specs.Reading.{transform_of}
use Rattle.refusals.specs.Refusals.{Read}
use Rattle.refusals.specs.declared.Refusal.TheVariants.{Outside}
use Rattle.scene.specs.declared.tags.PathTagData.{PathTagData}

-- A triangle whose first tag is given: a transform, then a style, two lines, a line that ends the subpath, and a path.
-- Its points stand at word 0x40, its transform at 0x44.
abbrev scene_from : ℕ → List ℕ
scene_from first =
    (0x01014000 + first) ∷ 0x00001005 ∷ (replicate 62 0
    ++ 0x00000000 ∷ 0x00000003 ∷ 0x00060000 ∷ 0x00000000 ∷ 0x3f800000 ∷ 0 ∷ 0 ∷ 0x3f800000 ∷ 0 ∷ 0 ∷ 0 ∷ 0 ∷ [])

-- the tag at an index, with the prefixes of a fresh scan
abbrev tag : ℕ → ℕ → Read PathTagData
tag first ix = tag_of (scene_from first) 0 (scan_of (scene_from first) 0 (replicate 4096 0)).words ix

abbrev read : ℕ → ℕ → ℕ → Read PathTagData
read byte transform offset = Ok (record { tag_byte = byte; monoid = sums 0 transform 0 offset })

-- with no transform before it, a line's transform index lies one below zero, and that transform's address is past 2^32 - 1
pub no_transform : (tag 0x00 2 ≡ read 0x01 0xffffffff 0) × (transform_of (scene_from 0x00) 0x44 0xffffffff ≡ Err Outside)
unfolding word_at tag_sums plus byte_at sums_below word_sums tag_data prefix_at with_prefix tag_in tag_of sums_before prefixes filled scan_of transform_of
no_transform = (refl, refl)
