-- What drawing commands left, put in a sheet with one fill style and one transform without shear. Definitions only.
use Rattle.std.specs.Prelude.{ℕ, ◌+◌, ◌-◌, ◌^◌, ◌<◌, ◌≤◌, ◌≡◌, true, false, eqb, length, Ok, is_ok}
use Rattle.scene.specs.Tags.{bit}
use Rattle.scene.specs.Reading.{flags_of, transform_of}
use Rattle.scene.specs.Fresh.{byte_of}
use Rattle.pattern.specs.Commands.{Outcome}
use Rattle.profile.specs.Rules.{six_at, straight}
use Rattle.watertight.specs.Fill.{Call, tags}
use Rattle.outlines.specs.Placing.{tag_words, FreshCall, Lent, FillAt, Placed}

-- the transform tag and the style tag, what commands left, the path tag, and nothing more
pub record LayUp (c : Call) (o : Outcome) : Type 0 where
  pub fresh : FreshCall c
  pub lent : Lent c fresh (tags c)
  pub tag_base : c.layout.tag_base ≤ length c.scene
  pub data_base : c.layout.data_base ≤ length c.scene
  pub transform_tag : byte_of (tag_words c) 0 ≡ 0x20
  pub style_tag : byte_of (tag_words c) 1 ≡ 0x40
  pub drawn : Placed c 2 o
  pub path_tag : byte_of (tag_words c) (2 + o.pen.tags) ≡ 0x10
  pub nothing_more : (i : ℕ) → 2 + o.pen.tags < i → i < tags c → byte_of (tag_words c) i ≡ 0
  pub in_call : 2 + o.pen.tags < tags c
  -- up to 4,096 segments
  pub few : o.pen.tags ≤ 4096
  -- the style fills, by the nonzero rule
  pub fill : FillAt c 2
  pub nonzero : eqb (bit fill.flags 0x40000000) 1 ≡ false
  -- a word stands where the call reads flags for tags that no style precedes
  pub flags_before : ℕ
  pub before_styles : flags_of c.scene c.layout.style_base (2 ^ 32 - 2) ≡ Ok flags_before
  -- the transform is there, and its second and third number are zero
  pub there : is_ok (transform_of c.scene c.layout.transform_base 0) ≡ true
  pub no_shear : straight (six_at c.scene c.layout.transform_base) ≡ true
