-- A read is refused by 2 or 3, by 4 where a box is looked for, and by 9 where a transform's numbers are: what is drawn comes later. Assumes nothing.
use Rattle.std.specs.Prelude.{ℕ, ◌+◌, ◌*◌, ◌/◌, ◌%◌, ◌^◌, Bool, true, false, cond, ◌&&◌, List, length, ◌==◌, nat_le, nat_lt, slice_index, Option, Some, None, Ok, Err}
use Rattle.refusals.specs.Refusals.{Read}
use Rattle.refusals.specs.declared.Refusal.TheVariants.{Outside, NoPrefix, NoBox, BadTransform}
use Rattle.scene.specs.Words.{word_at}
use Rattle.scene.specs.Tags.{plus, byte_at, sums_below, tag_data, prefix_at, with_prefix, tag_in, tag_of}
use Rattle.scene.specs.Reading.{wide, marker, cubic_of, reaches, segment_of, floats_at, transform_of, flags_of, width_of}
use Rattle.scene.specs.declared.tags.PathMonoid.{PathMonoid}

pub data Early {A : Type 0} : Read A → Type 0 where
  read : (a : A) → Early (Ok a)
  outside : Early (Err Outside)
  no_prefix : Early (Err NoPrefix)
  no_box : Early (Err NoBox)
  bad_transform : Early (Err BadTransform)

pub either : {A : Type 0} (b : Bool) {r s : Read A} → Early r → Early s → Early (cond b r s)
either true h k = h
either false h k = k

word_early : (ws : List ℕ) (at : ℕ) → Early (word_at ws at)
unfolding word_at
word_early ws at = either (nat_lt at (length ws)) (read (slice_index ws at)) outside

prefix_early : (byte : ℕ) (below : PathMonoid) (skip : Bool) (p : Option PathMonoid) → Early (with_prefix byte below skip p)
unfolding with_prefix
prefix_early byte below true p = read (tag_data byte below)
prefix_early byte below false (Some before) = read (tag_data byte (plus before below))
prefix_early byte below false None = no_prefix

in_early : {w : Read ℕ} → Early w → (place : ℕ) (p : Option PathMonoid) → Early (tag_in w place p)
unfolding tag_in
in_early (read w) place p = prefix_early (byte_at w place) (sums_below w place) (byte_at w place == 0) p
in_early outside place p = outside
in_early no_prefix place p = no_prefix
in_early no_box place p = no_box
in_early bad_transform place p = bad_transform

pub tag_early : (scene : List ℕ) (base : ℕ) (lent : List ℕ) (ix : ℕ) → Early (tag_of scene base lent ix)
unfolding tag_of
tag_early scene base lent ix = in_early (word_early scene (base + ix / 4)) (ix % 4) (prefix_at lent (ix / 4))

pub flags_early : (scene : List ℕ) (base ix : ℕ) → Early (flags_of scene base ix)
unfolding flags_of
flags_early scene base ix = word_early scene ((base + ix) % 2 ^ 32)

pub width_early : (scene : List ℕ) (base ix : ℕ) → Early (width_of scene base ix)
unfolding width_of
width_early scene base ix = either (nat_lt (base + ix + 1) (2 ^ 32)) (word_early scene (base + ix + 1)) outside

pub segment_early : (tag : ℕ) (stroke : Bool) (offset : ℕ) (scene : List ℕ) (base : ℕ) → Early (segment_of tag stroke offset scene base)
unfolding segment_of
segment_early tag stroke offset scene base =
    either (reaches (tag % 4) (wide tag) offset scene base) (read (cubic_of (tag % 4) (marker tag stroke) scene (wide tag) (base + offset))) outside

pub numbers_early : (scene : List ℕ) (base ix : ℕ) → Early (transform_of scene base ix)
unfolding transform_of
numbers_early scene base ix =
    either (nat_lt (base + ix * 6) (2 ^ 32) && nat_le (base + ix * 6 + 6) (length scene)) (read (floats_at scene (base + ix * 6))) outside
