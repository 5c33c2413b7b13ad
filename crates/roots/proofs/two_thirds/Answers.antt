-- `roots::two_thirds` meets its contract, by the pattern of x. Assumes nothing.
use Rattle.std.proofs.Common.{◌≡◌, ℕ, false, T, pos, sym, refl, ap, ◌∙◌, subst, zero-add, arith}
use lib.Ieee.{fin, binary32, of_bits}
use Rattle.roots.specs.Root.{two_thirds_of}
use Rattle.roots.specs.Rules.{two_thirds_zero}
use Rattle.roots.proofs.Patterns.{is_zero, zero_is, no_nan_pattern}
use Rattle.roots.proofs.Upward.{two_thirds_is, keeps_nan, negative, positive, infinity_stays, nan_const}
use Rattle.roots.proofs.two_thirds.Goals as goal

plus_zero_lem : of_bits binary32 0 ≡ fin false 0 (pos 0)
unfolding of_bits
plus_zero_lem = refl

pub returns-then-is_nan : goal.returns-then-is_nan
returns-then-is_nan c = keeps_nan _ _ two_thirds_is _ (sym c.is_nan.ensures.value ∙ c.if-is_nan.true)

pub returns-then-a-eq0 : goal.returns-then-a-eq0
returns-then-a-eq0 c = plus_zero_lem ∙ sym (zero_is _ _ (is_zero _ (subst T (sym c.well_formed.0.1) tt) c.if-a-eq0.true) two_thirds_of _ two_thirds_zero)

pub returns-then-b-ge2147483648 : goal.returns-then-b-ge2147483648
returns-then-b-ge2147483648 c = nan_const ∙ sym (negative _ _ two_thirds_is c.args.x (subst T (sym c.well_formed.0.1) tt) (sym c.is_nan.ensures.value ∙ c.if-is_nan.false) c.if-a-eq0.false (omega arith))

pub float_from_bits-result : goal.float_from_bits-result
float_from_bits-result c = let h = c.two_thirds_bits.ensures.number in no_nan_pattern c.two_thirds_bits.result (omega arith)

pub returns-then-a-lt2139095040 : goal.returns-then-a-lt2139095040
returns-then-a-lt2139095040 c =
    ap (λ (n : ℕ). of_bits binary32 n) (sym (zero-add c.two_thirds_bits.result))
    ∙ c.two_thirds_bits.ensures.right false
    ∙ sym (positive _ _ two_thirds_is _ (subst T (sym c.well_formed.0.1) tt) c.if-a-eq0.false c.if-b-ge2147483648.false c.if-a-lt2139095040.true)

pub returns : goal.returns
returns c = infinity_stays _ _ two_thirds_is _ (subst T (sym c.well_formed.0.1) tt) (sym c.is_nan.ensures.value ∙ c.if-is_nan.false) c.if-b-ge2147483648.false c.if-a-lt2139095040.false
