-- The lines of a range, one by one. Assumes nothing.
use Prim.Native.Nat.{ℕ, suc, ◌+◌, ◌-◌, ◌≤◌, ◌<◌}
use mathlib.Core.Path.{◌≡◌}
use mathlib.Core.List.{[], ◌∷◌, ◌++◌}
use native.Mathlib.Omega.{arith}
use Rattle.spiral.specs.declared.util.Vec2.{Vec2}
use Rattle.curve.specs.Fit.{place_of}
use Rattle.curve.specs.Curve.{line_of, lines_of}
use Rattle.curve.specs.declared.fit.Fit.{Fit}
use Rattle.curve.specs.declared.Side.{Side}

one_more_lem : (n i : ℕ) → i < n → n - i ≡ suc (n - (i + 1))
one_more_lem n i h = omega arith

none_left : (n i : ℕ) → n ≤ i → n - i ≡ 0
none_left n i h = omega arith

module _ (s : Side) (f : Fit) (n i : ℕ) (at end : Vec2) where
  pub lines_turn : {to : Vec2} → i < n → to ≡ place_of f i → lines_of s f (n - i) i at end ≡ (line_of s at to ∷ []) ++ lines_of s f (n - (i + 1)) (i + 1) to end
  unfolding lines_of
  lines_turn h e = rw (e, one_more_lem n i h)

  pub lines_last : n ≤ i → lines_of s f (n - i) i at end ≡ line_of s at end ∷ []
  unfolding lines_of
  lines_last h = rw (none_left n i h)
