-- `curve::fit::Bend::line_count` meets its contract. Assumes nothing.
use mathlib.Core.Path.{sym, ◌∙◌, subst}
use lib.Dec.{T}
use lib.Ieee.{of_bits, round}
use Rattle.curve.specs.Fit.{multiplier_of, integrand_of, n_frac_of}
use Rattle.curve.specs.Straight.{one_line}
use Rattle.curve.proofs.fit.Bend.line_count.Goals as goal

pub returns-then-is_straight : goal.returns-then-is_straight
unfolding multiplier_of integrand_of n_frac_of of_bits round
returns-then-is_straight c = rw c.in-LowK1.is (sym (one_line _ _ (subst T (sym (sym c.is_straight.ensures ∙ c.if-is_straight.true)) tt)))
