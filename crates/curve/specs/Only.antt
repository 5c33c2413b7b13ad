-- No second answer, and no other words at the end, satisfy the contract of `flatten_euler`. Assumes nothing.
use Rattle.std.specs.Prelude.{ℕ, List, Float}
use Rattle.laws.specs.Only.{Only}
use Rattle.spiral.specs.declared.util.Vec2.{Vec2}
use Rattle.drawing.specs.Page.{Ink, Page, Drew}
use Rattle.drawing.specs.Only.{drew_only}
use Rattle.curve.specs.Curve.{euler_events}

pub flatten_euler_only : (ws : List ℕ) (ink : Ink) (cubic : List Vec2) (z : List Float) (offset : Float) (start end : Vec2)
    → Only (λ (s : Page). Drew ws ink (euler_events cubic z offset start end) s.words s.ink)
flatten_euler_only ws ink cubic z offset start end = drew_only ws ink (euler_events cubic z offset start end)
