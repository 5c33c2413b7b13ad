-- `exports::pen::open_of` meets its contract. Assumes nothing.
use Prim.Native.Nat.{ℕ, zero, suc}
use mathlib.Core.Path.{◌≡◌, refl, sym, ap}
use Rattle.pattern.specs.declared.pen.Open.TheVariants.{Drawing}
use Rattle.exports.specs.Pen.{open_of}
use Rattle.exports.proofs.pen.open_of.Goals as goal

any_other : (n : ℕ) → (n ≡ 0 → ⊥) → (n ≡ 1 → ⊥) → Drawing ≡ open_of n
unfolding open_of
any_other zero h k = absurd (h refl)
any_other (suc zero) h k = absurd (k refl)
any_other (suc (suc n)) h k = refl

pub returns-then-word-eq0 : goal.returns-then-word-eq0
unfolding open_of
returns-then-word-eq0 c = sym (ap open_of c.if-word-eq0.true)

pub returns-then-word-eq1 : goal.returns-then-word-eq1
unfolding open_of
returns-then-word-eq1 c = sym (ap open_of c.if-word-eq1.true)

pub returns : goal.returns
returns c = any_other _ c.if-word-eq0.false c.if-word-eq1.false
