-- `roots::sqrt_rest` meets its contract, by the pattern of x. Assumes nothing.
use Rattle.std.proofs.Common.{ℕ, false, T, sym, ap, ◌∙◌, subst, zero-add, arith}
use lib.Ieee.{binary32, of_bits}
use Rattle.roots.specs.Root.{sqrt_of}
use Rattle.roots.specs.Rules.{sqrt_zero}
use Rattle.roots.proofs.Patterns.{is_zero, zero_stays, no_nan_pattern}
use Rattle.roots.proofs.Upward.{sqrt_is, keeps_nan, negative, positive, infinity_stays, nan_const}
use Rattle.roots.proofs.sqrt_rest.Goals as goal

pub returns-then-is_nan : goal.returns-then-is_nan
returns-then-is_nan c = keeps_nan _ _ sqrt_is _ (sym c.is_nan.ensures.value ∙ c.if-is_nan.true)

pub returns-then-a-eq0 : goal.returns-then-a-eq0
returns-then-a-eq0 c = zero_stays _ _ (is_zero _ (subst T (sym c.well_formed.0.1) tt) c.if-a-eq0.true) sqrt_of sqrt_zero

pub returns-then-b-ge2147483648 : goal.returns-then-b-ge2147483648
returns-then-b-ge2147483648 c = nan_const ∙ sym (negative _ _ sqrt_is _ (subst T (sym c.well_formed.0.1) tt) (sym c.is_nan.ensures.value ∙ c.if-is_nan.false) c.if-a-eq0.false c.if-b-ge2147483648.true)

pub float_from_bits-result : goal.float_from_bits-result
float_from_bits-result c = let h = c.sqrt_digits.ensures.number in no_nan_pattern c.sqrt_digits.result (omega arith)

pub returns-then-a-lt2139095040 : goal.returns-then-a-lt2139095040
returns-then-a-lt2139095040 c =
    ap (λ (n : ℕ). of_bits binary32 n) (sym (zero-add c.sqrt_digits.result))
    ∙ c.sqrt_digits.ensures.right false
    ∙ sym (positive _ _ sqrt_is _ (subst T (sym c.well_formed.0.1) tt) c.if-a-eq0.false c.if-b-ge2147483648.false c.if-a-lt2139095040.true)

pub returns : goal.returns
returns c = infinity_stays _ _ sqrt_is _ (subst T (sym c.well_formed.0.1) tt) (sym c.is_nan.ensures.value ∙ c.if-is_nan.false) c.if-b-ge2147483648.false c.if-a-lt2139095040.false
