-- No second answer, and no other words at the end, meet the contract of a public function. Assumes nothing.
use Rattle.std.specs.Prelude.{ℕ, ◌≡◌, Bool, List, [], ◌∷◌, is_err, ℤ, Float}
use Rattle.std.proofs.Common.{ap, sym, ◌∙◌}
use Rattle.laws.specs.Only.{Only, determined}
use Rattle.spiral.specs.declared.util.Vec2.{Vec2}
use Rattle.drawing.specs.declared.line.Pen.{Pen}
use Rattle.drawing.specs.declared.line.Nib.{Nib}
use Rattle.drawing.specs.declared.cubic.CubicAt.{CubicAt}
use Rattle.drawing.specs.Sheet.{IntBbox, Event, Drawn, line, no_count, no_join, line_through, lower_of, higher_of, empty_box}
use Rattle.drawing.specs.Page.{Reach, Ink, Page, empty_reach, reach_with, whole_box, pen_of, dried_of, Drew}
use Rattle.drawing.specs.PageLaws.{exact}
use Rattle.drawing.specs.Arc.{arc_of}
use Rattle.drawing.specs.Cap.{cap_events}
use Rattle.drawing.specs.Join.{join_events}
use Rattle.drawing.specs.Cubic.{cubic_at, start_tangent, end_tangent}

-- every function that draws into the lent words
pub drew_only : (ws : List ℕ) (ink : Ink) (es : List Event) → Only (λ (s : Page). Drew ws ink es s.words s.ink)
drew_only ws ink es r s h k = exact h ∙ sym (exact k)

module _ (ws : List ℕ) (ink : Ink) where
  abbrev Draws : List Event → Page → Type 0
  Draws es s = Drew ws ink es s.words s.ink

  pub write_line_only : (p q : Vec2) → Only (Draws (line p q ∷ []))
  write_line_only p q = drew_only ws ink (line p q ∷ [])

  pub output_line_with_transform_only : (z : List Float) (p q : Vec2) → Only (Draws (line_through z p q ∷ []))
  output_line_with_transform_only z p q = drew_only ws ink (line_through z p q ∷ [])

  pub output_two_lines_with_transform_only : (z : List Float) (p q r s : Vec2) → Only (Draws (line_through z p q ∷ line_through z r s ∷ []))
  output_two_lines_with_transform_only z p q r s = drew_only ws ink (line_through z p q ∷ line_through z r s ∷ [])

  pub flatten_arc_only : (z : List Float) (begin end center : Vec2) (angle : Float) → Only (Draws (arc_of z begin end center angle))
  flatten_arc_only z begin end center angle = drew_only ws ink (arc_of z begin end center angle)

  pub draw_cap_only : (style : ℕ) (z : List Float) (p cap0 cap1 tangent : Vec2) → Only (Draws (cap_events style z p cap0 cap1 tangent))
  draw_cap_only style z p cap0 cap1 tangent = drew_only ws ink (cap_events style z p cap0 cap1 tangent)

  pub draw_join_only : (flags : ℕ) (z : List Float) (p tp tn np nn : Vec2) → Only (Draws (join_events flags z p tp tn np nn))
  draw_join_only flags z p tp tn np nn = drew_only ws ink (join_events flags z p tp tn np nn)

-- the two that stop without them
stop_only : (ink : Ink) (es : List Event) → Only (λ (r : Ink). (ws : List ℕ) → Drew ws ink es ws r)
stop_only ink es r s h k = ap (λ (t : Page). t.ink) (exact (h []) ∙ sym (exact (k [])))

pub no_count_only : (ink : Ink) → Only (λ (r : Ink). (ws : List ℕ) → Drew ws ink (no_count ∷ []) ws r)
no_count_only ink = stop_only ink (no_count ∷ [])

pub no_join_only : (ink : Ink) → Only (λ (r : Ink). (ws : List ℕ) → Drew ws ink (no_join ∷ []) ws r)
no_join_only ink = stop_only ink (no_join ∷ [])

pub stopped_only : (d : Ink) → Only (λ (r : Bool). r ≡ is_err d)
stopped_only d = determined (is_err d)

pub lower_only : (a b : ℤ) → Only (λ (r : ℤ). r ≡ lower_of a b)
lower_only a b = determined (lower_of a b)

pub higher_only : (a b : ℤ) → Only (λ (r : ℤ). r ≡ higher_of a b)
higher_only a b = determined (higher_of a b)

pub empty_only : Only (λ (r : IntBbox). r ≡ empty_box)
empty_only = determined empty_box

pub reach_empty_only : Only (λ (r : Reach). r ≡ empty_reach)
reach_empty_only = determined empty_reach

pub add_pt_only : (b : Reach) (p : Vec2) → Only (λ (r : Reach). r ≡ reach_with b p)
add_pt_only b p = determined (reach_with b p)

pub whole_only : (b : Reach) → Only (λ (r : IntBbox). r ≡ whole_box b)
whole_only b = determined (whole_box b)

pub pen_only : (nib : Nib) → Only (λ (r : Pen). r ≡ pen_of nib)
pen_only nib = determined (pen_of nib)

pub dried_only : (d : Ink) → Only (λ (r : Drawn). r ≡ dried_of d)
dried_only d = determined (dried_of d)

pub eval_cubic_and_deriv_only : (ps : List Vec2) (t : Float) → Only (λ (r : CubicAt). r ≡ cubic_at ps t)
eval_cubic_and_deriv_only ps t = determined (cubic_at ps t)

pub cubic_start_tangent_only : (ps : List Vec2) → Only (λ (r : Vec2). r ≡ start_tangent ps)
cubic_start_tangent_only ps = determined (start_tangent ps)

pub cubic_end_tangent_only : (ps : List Vec2) → Only (λ (r : Vec2). r ≡ end_tangent ps)
cubic_end_tangent_only ps = determined (end_tangent ps)
