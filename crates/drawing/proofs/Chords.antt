-- What a turn of the arc's loop takes from the chords that are left. Assumes nothing.
use Prim.Native.Nat.{ℕ, suc, ◌+◌, ◌-◌, ◌<◌, ◌≤◌}
use mathlib.Core.Path.{◌≡◌, ap, ◌∙◌}
use mathlib.Core.List.{List, [], ◌∷◌, ◌++◌}
use native.Mathlib.Omega.{arith}
use lib.Ieee.{Float}
use Rattle.spiral.specs.declared.util.Vec2.{Vec2}
use Rattle.spiral.specs.Util.{add_of, apply_of}
use Rattle.drawing.specs.Sheet.{line}
use Rattle.drawing.specs.Arc.{chords}

one_less : (n k : ℕ) → k < n → n - k ≡ suc (n - (k + 1))
one_less n k h = omega arith

none_left : (n k : ℕ) → n ≤ k → n - k ≡ 0
none_left n k h = omega arith

module _ (rot z : List Float) (center end at arm : Vec2) (n k : ℕ) where
  pub chord : {arm' q next : Vec2} → k < n → arm' ≡ apply_of rot arm → q ≡ add_of center arm' → next ≡ apply_of z q → chords (n - k) rot z center end at arm ≡ (line at next ∷ []) ++ chords (n - (k + 1)) rot z center end next arm'
  unfolding chords
  chord h e f g = ap (λ (m : ℕ). chords m rot z center end at arm) (one_less n k h) ∙ rw (g, f, e)

  pub last_chord : {q : Vec2} → n ≤ k → q ≡ apply_of z end → chords (n - k) rot z center end at arm ≡ line at q ∷ []
  unfolding chords
  last_chord h e = ap (λ (m : ℕ). chords m rot z center end at arm) (none_left n k h) ∙ rw e
