-- Where the cubic of a segment starts and ends: at its first and its last point as read; of a marker, at the last but one and the last of a quad, and at the first and the
-- last of a cubic. Assumes nothing.
use Rattle.std.specs.Prelude.{ℕ, zero, suc, ◌<◌, ◌≡◌, refl, Bool, true, false, cond, eqb}
use Rattle.std.proofs.Common.{arith, mod-lt, lit<}
use Rattle.spiral.specs.declared.util.Vec2.{Vec2}
use Rattle.drawing.specs.Cubic.{point}
use Rattle.scene.specs.Reading.{line_cubic, quad_cubic, raised, cubic_of}
use Rattle.watertight.specs.Fill.{Call, type_of, point_of, first_of, last_of}
use Rattle.strokes.specs.Stroke.{stroke_cubic, start_point, end_point, ends_subpath, IsMarker}

segment_of_lem : (k : ℕ) (mark : Bool) (p : ℕ → Vec2) → eqb k 0 ≡ false → mark ≡ false → k < 4 → (point (raised k mark p) 0 ≡ p 0) × (point (raised k mark p) 3 ≡ p k)
unfolding raised line_cubic quad_cubic
segment_of_lem zero mark p h m l = let z : ◌≡◌ {A = ℕ} 0 1 = cc in absurd (omega arith)
segment_of_lem (suc zero) mark p h m l = (refl, refl)
segment_of_lem (suc (suc zero)) true p h m l = let z : ◌≡◌ {A = ℕ} 0 1 = cc in absurd (omega arith)
segment_of_lem (suc (suc zero)) false p h m l = (refl, refl)
segment_of_lem (suc (suc (suc zero))) mark p h m l = (refl, refl)
segment_of_lem (suc (suc (suc (suc k)))) mark p h m l = absurd (omega arith)

marker_of : (k : ℕ) (mark : Bool) (p : ℕ → Vec2) → eqb k 0 ≡ false → eqb k 1 ≡ false → mark ≡ true → k < 4 → (point (raised k mark p) 0 ≡ p (cond (eqb k 2) 1 0)) × (point (raised k mark p) 3 ≡ p k)
unfolding raised line_cubic
marker_of zero mark p h n m l = let z : ◌≡◌ {A = ℕ} 0 1 = cc in absurd (omega arith)
marker_of (suc zero) mark p h n m l = let z : ◌≡◌ {A = ℕ} 0 1 = cc in absurd (omega arith)
marker_of (suc (suc zero)) true p h n m l = (refl, refl)
marker_of (suc (suc zero)) false p h n m l = let z : ◌≡◌ {A = ℕ} 0 1 = cc in absurd (omega arith)
marker_of (suc (suc (suc zero))) mark p h n m l = (refl, refl)
marker_of (suc (suc (suc (suc k)))) mark p h n m l = absurd (omega arith)

module _ (c : Call) (i : ℕ) (segment : eqb (type_of c i) 0 ≡ false) where
  pub segment_ends : ends_subpath c i ≡ false → (start_point c i ≡ first_of c i) × (end_point c i ≡ last_of c i)
  unfolding stroke_cubic cubic_of point_of
  segment_ends h = segment_of_lem (type_of c i) (ends_subpath c i) _ segment h (mod-lt _ (lit< tt))

  pub marker_ends : IsMarker c i → (start_point c i ≡ point_of c i (cond (eqb (type_of c i) 2) 1 0)) × (end_point c i ≡ last_of c i)
  unfolding stroke_cubic cubic_of point_of
  marker_ends h = marker_of (type_of c i) (ends_subpath c i) _ segment h.1 h.0 (mod-lt _ (lit< tt))
