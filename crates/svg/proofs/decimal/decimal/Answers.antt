-- `svg::decimal::decimal` meets its contract. Assumes nothing.
use mathlib.Core.Path.{◌≡◌, sym, ap, ◌∙◌}
use mathlib.Core.Bool.{Bool, true, false, cond}
use Prim.Native.Nat.{ℕ, ◌+◌, ◌^◌}
use native.Mathlib.Omega.{arith}
use Rattle.svg.proofs.Lifting.{zero_word, word_is}
use Rattle.svg.proofs.decimal.decimal.Goals as goal

minus : (s : Bool) (x : ℕ) → s ≡ true → cond s (2 ^ 31) 0 + x ≡ x + 2147483648
minus s x e = ap (λ (s : Bool). cond s (2 ^ 31) 0 + x) e ∙ omega arith

plus : (s : Bool) (x : ℕ) → s ≡ false → cond s (2 ^ 31) 0 + x ≡ x
plus s x e = ap (λ (s : Bool). cond s (2 ^ 31) 0 + x) e ∙ omega arith

pub returns-then-negative : goal.returns-then-negative
returns-then-negative c = ap (λ (s : Bool). cond s (2 ^ 31) 0) (sym c.if-negative.true) ∙ zero_word _ _ _ c.if-n-eq0.true

pub returns-then-n-eq0 : goal.returns-then-n-eq0
returns-then-n-eq0 c = ap (λ (s : Bool). cond s (2 ^ 31) 0) (sym c.if-negative.false) ∙ zero_word _ _ _ c.if-n-eq0.true

pub returns-then-negative-2 : goal.returns-then-negative-2
returns-then-negative-2 c = sym (minus _ _ c.if-negative-2.true) ∙ word_is _ _ _ _ _ c.power.ensures.0 c.ratio-b.ensures

pub returns : goal.returns
returns c = sym (plus _ _ c.if-negative-2.false) ∙ word_is _ _ _ _ _ c.power.ensures.0 c.ratio-b.ensures
