-- No second answer satisfies the contract of a public function. Assumes nothing.
use Rattle.std.specs.Prelude.{ℕ, ◌≡◌, List, Float}
use Rattle.laws.specs.Only.{Only, determined}
use Rattle.spiral.specs.declared.util.Vec2.{Vec2}
use Rattle.drawing.specs.Page.{Ink, Page, Drew}
use Rattle.drawing.specs.Only.{drew_only}
use Rattle.segment.specs.Segment.{neighbor_of, shape_events}
use Rattle.segment.specs.declared.Neighbor.{Neighbor}
use Rattle.segment.specs.declared.Shape.{Shape}

pub neighbor_of_only : (tag : ℕ) (ps : List Vec2) → Only (λ (r : Neighbor). r ≡ neighbor_of tag ps)
neighbor_of_only tag ps = determined (neighbor_of tag ps)

-- nor other words at the end
pub draw_shape_only : (ws : List ℕ) (ink : Ink) (s : Shape) (flags : ℕ) (z : List Float) (ps : List Vec2)
    → Only (λ (r : Page). Drew ws ink (shape_events s flags z ps) r.words r.ink)
draw_shape_only ws ink s flags z ps = drew_only ws ink (shape_events s flags z ps)
