-- What the proofs about one tag cite. Assumes nothing.
use Prim.Native.Nat.{ℕ, zero, suc, ◌+◌, ◌*◌, ◌%◌, ◌<◌}
use mathlib.Core.Path.{◌≡◌, refl, sym, ◌∙◌}
use mathlib.Core.Bool.{Bool, false}
use mathlib.Core.List.{List}
use native.Mathlib.Omega.{arith}
use native.Mathlib.Nat.{mod-lt}
use lib.Dec.{eqb, lit<}
use lib.ListN.{get_or}
use Rattle.std.specs.Prelude.{Ok}
use Rattle.refusals.specs.Laws.{found_where}
use Rattle.spiral.specs.declared.util.Vec2.{Vec2}
use Rattle.scene.specs.Reading.{wide, point_words, point_at, line_cubic, quad_cubic, raised, cubic_of, segment_of}
use Rattle.flatten.specs.declared.call.Layout.{Layout}
use Rattle.flatten.specs.declared.tag.Head.{Head}
use Rattle.profile.specs.Rules.{six_at, transform_from, point_of}
use Rattle.profile.specs.Trail.{Small, InReach, piece_of, entered_of}
use Rattle.profile.specs.declared.trail.Piece.{Piece}
use Rattle.profile.specs.declared.trail.Trail.{Trail}

-- what a test that was made says of what it tests
pub told : (r s t : Bool) → r ≡ s → r ≡ t → s ≡ t
told r s t e f = sym e ∙ f

-- ---- points

-- the cubic of a segment starts at its first point and ends at its last
ends_of : (k : ℕ) (p : ℕ → Vec2) (d d' : Vec2) → eqb k 0 ≡ false → k < 4 → (get_or (raised k false p) 0 d ≡ p 0) × (get_or (raised k false p) 3 d' ≡ p k)
unfolding raised line_cubic quad_cubic
ends_of zero p d d' e l = let z : ◌≡◌ {A = ℕ} 0 1 = cc in absurd (omega arith)
ends_of (suc zero) p d d' e l = (refl, refl)
ends_of (suc (suc zero)) p d d' e l = (refl, refl)
ends_of (suc (suc (suc zero))) p d d' e l = (refl, refl)
ends_of (suc (suc (suc (suc k)))) p d d' e l = absurd (omega arith)

pub piece_is : (layout : Layout) (scene : List ℕ) (h : Head) → InReach layout scene h → (d d' : Vec2) (ps : List Vec2) (ws : List ℕ)
    → segment_of h.tag.tag_byte false h.tag.monoid.pathseg_offset scene layout.data_base ≡ Ok ps → ws ≡ six_at scene (transform_from layout h)
    → record { words = ws; first = get_or ps 0 d; last = get_or ps 3 d' } ≡ piece_of layout scene h
unfolding segment_of cubic_of point_of piece_of
piece_is layout scene h k d d' ps ws e f =
    let byte = h.tag.tag_byte in
    let w = wide byte in
    let at = layout.data_base + h.tag.monoid.pathseg_offset in
    let is = (found_where _ _ _ _ e).1 in
    let two = ends_of (byte % 4) (λ j. point_at w scene (at + j * point_words w)) d d' k.segment (mod-lt byte (lit< tt)) in
    rw (← is, f, two.0, two.1)

-- a segment is counted only behind it
pub entered_small : (t t' : Trail) (p : Piece) → Small t → t' ≡ entered_of t p → Small t'
unfolding entered_of
entered_small t t' p k e = rw e (record { segments = k.segments; subpaths = k.subpaths })
