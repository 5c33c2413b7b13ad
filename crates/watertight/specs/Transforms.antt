-- In an accepted call every transform that was read has six finite numbers. Assumes nothing.
use Rattle.std.specs.Prelude.{ℕ, ◌<◌, ◌≡◌, true, false, eqb}
use Rattle.std.proofs.Common.{sym, ap, ◌∙◌}
use Rattle.scene.specs.Reading.{floats_at, all_finite}
use Rattle.flatten.specs.Found.{parts}
use Rattle.watertight.specs.Fill.{Call, Accepted, tags, head_of, drawn_at, type_of, transform_words}
use Rattle.watertight.specs.FillLaws.{six_words_lem}
use Rattle.watertight.specs.Accepted.{done}

-- a tag with a segment reads its transform, and no other tag does
pub transforms_finite : (c : Call) → Accepted c → (i : ℕ) → i < tags c → eqb (type_of c i) 0 ≡ false → all_finite (floats_at (transform_words c i) 0) ≡ true
transforms_finite c a i l segment =
    ap all_finite (sym (six_words_lem c.scene _)) ∙ (parts c.layout c.scene c.prefixes i (head_of c i) (drawn_at c i) segment ((done c a).sound i l).events).finite
