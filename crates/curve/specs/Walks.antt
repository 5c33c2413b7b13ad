-- How to reason about a walk: what holds of each accepted range, and of a range where it holds of its halves, holds of the walk. Assumes nothing.
use Prim.Native.Nat.{ℕ, zero, suc, ◌+◌, ◌*◌}
use Rattle.std.specs.Prelude.{◌≡◌, Bool}
use Rattle.std.proofs.Math.Path.{refl, subst}
use Rattle.std.proofs.Common.{sym, ap, ◌∙◌}
use Rattle.std.proofs.Math.Bool.{true, false}
use mathlib.Core.List.{List, [], ◌∷◌, ◌++◌, flatten, append_assoc}
use Rattle.drawing.specs.Sheet.{Event}
use Rattle.curve.specs.Curve.{Front, Trail, onward, tip_of, is_near, accepted, walk}
use Rattle.curve.specs.declared.Side.{Side}

module _ (s : Side) where
  pub walk_near : (d u : ℕ) (f : Front) → is_near s f (tip_of s (suc d) u) ≡ true → walk s (suc d) u f ≡ accepted s f (tip_of s (suc d) u)
  unfolding walk
  walk_near d u f e = cc

  pub walk_far : (d u : ℕ) (f : Front) → is_near s f (tip_of s (suc d) u) ≡ false → walk s (suc d) u f ≡ onward (walk s d (u * 2) f) (walk s d (u * 2 + 1))
  unfolding walk
  walk_far d u f e = cc

  module _ (P : ℕ → ℕ → Front → Trail → Type 0) (leaf : (d u : ℕ) (f : Front) → P d u f (accepted s f (tip_of s d u)))
      (join : (d u : ℕ) (f : Front) (a : Trail) (b : Front → Trail) → P d (u * 2) f a → P d (u * 2 + 1) a.front (b a.front) → P (suc d) u f (onward a b)) where
    pub walks : (d u : ℕ) (f : Front) → P d u f (walk s d u f)
    unfolding walk
    walks zero u f = leaf zero u f
    walks (suc d) u f =
        go (is_near s f (tip_of s (suc d) u)) refl (walks d (u * 2) f) (walks d (u * 2 + 1) (walk s d (u * 2) f).front)
      where
        go : (b : Bool) → is_near s f (tip_of s (suc d) u) ≡ b → P d (u * 2) f (walk s d (u * 2) f) → P d (u * 2 + 1) (walk s d (u * 2) f).front (walk s d (u * 2 + 1) (walk s d (u * 2) f).front)
            → P (suc d) u f (walk s (suc d) u f)
        go true e h k = subst (P (suc d) u f) (sym (walk_near d u f e)) (leaf (suc d) u f)
        go false e h k = subst (P (suc d) u f) (sym (walk_far d u f e)) (join d u f (walk s d (u * 2) f) (walk s d (u * 2 + 1)) h k)

pub flatten_append : (xs ys : List (List Event)) → flatten (xs ++ ys) ≡ flatten xs ++ flatten ys
unfolding flatten
flatten_append [] ys = refl
flatten_append (x ∷ xs) ys = ap (λ (es : List Event). x ++ es) (flatten_append xs ys) ∙ sym (append_assoc x (flatten xs) (flatten ys))
