-- The points of a moved segment are those of the old one. Assumes nothing.
use Rattle.std.specs.Prelude.{ℕ, zero, suc, ◌+◌, ◌-◌, ◌*◌, ◌/◌, ◌%◌, ◌^◌, ◌<◌, ◌≤◌, ◌≡◌, Bool, get_or, Ok}
use Rattle.std.proofs.Math.Path.{ap}
use Rattle.std.proofs.Common.{sym, ◌∙◌}
use Rattle.std.proofs.Math.Bool.{true, false}
use mathlib.Core.List.{List}
use native.Mathlib.Omega.{arith}
use Rattle.std.proofs.Math.Dec.{eqb}
use Rattle.std.proofs.Math.ListN.{length}
use Rattle.std.specs.Float.Ieee.{fits}
use borrow.Author.Tests.{lt-ltb, le-leb}
use Rattle.spiral.specs.declared.util.Vec2.{Vec2}
use Rattle.scene.specs.Reading.{i16_point, f32_point, point_words, point_at, point_count, raised, line_cubic, quad_cubic, cubic_of, reaches, segment_of, wide, marker}
use Rattle.scene.specs.Points.{i16_exact}
use Rattle.refusals.specs.Laws.{found_where}
use Rattle.sheets.specs.Moving.{x_word, y_word}

-- ---- a cubic

-- only the points that are read matter
raised_same : (kind : ℕ) (mark : Bool) (p q : ℕ → Vec2) → ((j : ℕ) → j < point_count kind → p j ≡ q j) → raised kind mark p ≡ raised kind mark q
unfolding raised point_count line_cubic quad_cubic
raised_same zero mark p q f = rw (f 0 (omega arith), f 1 (omega arith))
raised_same (suc zero) mark p q f = rw (f 0 (omega arith), f 1 (omega arith))
raised_same (suc (suc zero)) true p q f = rw (f 1 (omega arith), f 2 (omega arith))
raised_same (suc (suc zero)) false p q f = rw (f 0 (omega arith), f 1 (omega arith), f 2 (omega arith))
raised_same (suc (suc (suc k))) mark p q f = rw (f 0 (omega arith), f 1 (omega arith), f 2 (omega arith), f 3 (omega arith))

-- the words of the old scene from base on are moved to those of the new one
pub record MovedWords (scene : List ℕ) (base : ℕ) (scene' : List ℕ) (base' count : ℕ) : Type 0 where
  pub there : base' + 2 * count ≤ length scene'
  pub x : (w : ℕ) → w < count → get_or scene' (base' + 2 * w) 0 ≡ x_word (get_or scene (base + w) 0)
  pub y : (w : ℕ) → w < count → get_or scene' (base' + 2 * w + 1) 0 ≡ y_word (get_or scene (base + w) 0)

module _ {scene : List ℕ} {base : ℕ} {scene' : List ℕ} {base' count : ℕ} (m : MovedWords scene base scene' base' count) where
  point_same : (o j : ℕ) → o + j < count → point_at true scene' (base' + 2 * o + j * point_words true) ≡ point_at false scene (base + o + j * point_words false)
  unfolding point_at f32_point i16_point point_words
  point_same o j h =
      let at : base' + 2 * o + j * 2 ≡ base' + 2 * (o + j) = omega arith in
      let from : base + o + j * 1 ≡ base + (o + j) = omega arith in
      rw (at, from, m.x (o + j) h, m.y (o + j) h, i16_exact, i16_exact)

  cubic_same : (kind : ℕ) (mark : Bool) (o : ℕ) → o + point_count kind ≤ count → cubic_of kind mark scene' true (base' + 2 * o) ≡ cubic_of kind mark scene false (base + o)
  unfolding cubic_of
  cubic_same kind mark o h = raised_same kind mark (λ j. point_at true scene' (base' + 2 * o + j * point_words true)) (λ j. point_at false scene (base + o + j * point_words false)) (λ j l. point_same o j (omega arith))

  reaches_too : (kind o : ℕ) → o + point_count kind ≤ count → count ≤ 2 ^ 30 → reaches kind true (2 * o) scene' base' ≡ true
  unfolding reaches point_words
  reaches_too kind o h l =
      let a : 2 * o + (point_count kind - 1) * 2 < 2 ^ 32 = omega arith in
      let b : base' + 2 * o + point_count kind * 2 ≤ length scene' = omega (arith, m.there) in
      rw (lt-ltb _ _ a, le-leb _ _ b)

  -- a segment that was read has its cubic
  old_cubic : (tag : ℕ) (stroke : Bool) (o : ℕ) (ps : List Vec2) → wide tag ≡ false
      → segment_of tag stroke o scene base ≡ Ok ps → cubic_of (tag % 4) (marker tag stroke) scene false (base + o) ≡ ps
  unfolding segment_of
  old_cubic tag stroke o ps w e =
      ap (λ (b : Bool). cubic_of (tag % 4) (marker tag stroke) scene b (base + o)) (sym w)
      ∙ (found_where _ _ _ _ e).1

  -- the new segment is found, with the points of the old
  pub points_same : (tag tag' : ℕ) (stroke : Bool) (o o' : ℕ) (ps : List Vec2)
      → tag' % 4 ≡ tag % 4 → tag' / 4 % 2 ≡ tag / 4 % 2 → tag / 8 % 2 ≡ 0 → tag' / 8 % 2 ≡ 1 → o' ≡ 2 * o → o + point_count (tag % 4) ≤ count → count ≤ 2 ^ 30
      → segment_of tag stroke o scene base ≡ Ok ps
      → segment_of tag' stroke o' scene' base' ≡ Ok ps
  unfolding segment_of
  points_same tag tag' stroke o o' ps kind end old new double fits few e =
      let w : wide tag ≡ false = ap (λ (x : ℕ). eqb x 1) old in
      let w' : eqb (tag' / 8 % 2) 1 ≡ true = ap (λ (x : ℕ). eqb x 1) new in
      rw (double, kind, end, w', reaches_too (tag % 4) o fits few)
      (ap Ok (cubic_same (tag % 4) (marker tag stroke) o fits ∙ old_cubic tag stroke o ps w e))
