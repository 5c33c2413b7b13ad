-- `trig::wave` meets its contract. Assumes nothing.
use mathlib.Core.Path.{◌≡◌, refl, ap, ◌∙◌}
use mathlib.Core.Bool.{cond}
use mathlib.Core.List.{[], ◌∷◌}
use Prim.Native.Nat.{ℕ, zero, suc, ◌%◌, ◌<◌}
use native.Mathlib.Nat.{lt_irrefl}
use native.Mathlib.Omega.{arith}
use lib.Dec.{leb, eqb}
use lib.ListN.{get_or}
use lib.Ieee.{Float, nan, of_bits, neg}
use Rattle.numbers.specs.Words.{signed}
use Rattle.trig.specs.Trig.{one, minus_one, bounded_of, sin_near, cos_near, curve_of, wave_of}
use Rattle.trig.proofs.wave.Goals as goal

-- by turns sine, cosine, minus sine, minus cosine
one_of_four : (j : ℕ) (s c : Float) → j < 4 → get_or (s ∷ c ∷ neg s ∷ neg c ∷ []) j nan ≡ signed (leb 2 j) (cond (eqb (j % 2) 0) s c)
unfolding signed
one_of_four zero s c h = refl
one_of_four (suc zero) s c h = refl
one_of_four (suc (suc zero)) s c h = refl
one_of_four (suc (suc (suc zero))) s c h = refl
one_of_four (suc (suc (suc (suc j)))) s c h = absurd (lt_irrefl 0 (omega arith))

parity : (k : ℕ) → k % 4 % 2 ≡ k % 2
parity k = omega arith

taken : (k : ℕ) (r : Float) → bounded_of minus_one one (get_or (sin_near r ∷ cos_near r ∷ neg (sin_near r) ∷ neg (cos_near r) ∷ []) (k % 4) nan) ≡ wave_of k r
unfolding wave_of curve_of
taken k r = ap (bounded_of minus_one one)
    (one_of_four (k % 4) (sin_near r) (cos_near r) (omega arith)
    ∙ ap (λ (p : ℕ). signed (leb 2 (k % 4)) (cond (eqb p 0) (sin_near r) (cos_near r))) (parity k))

pub returns : goal.returns
unfolding of_bits neg
returns c = rw (c.bounded.ensures, c.cos_near-c.ensures, c.sin_near-s.ensures) (taken c.args.k c.args.r)
