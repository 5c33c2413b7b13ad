-- `roots::cbrt` meets its contract, by the pattern of x. Assumes nothing.
use Rattle.std.proofs.Common.{◌≡◌, ℕ, ◌+◌, ◌*◌, ◌%◌, ◌^◌, ◌<◌, ◌≤◌, not, T, leb, sym, ap, ◌∙◌, subst, arith}
use lib.Ieee.Bits.{to_bits-lt}
use lib.Ieee.{Float, binary32, of_bits, fits, to_bits}
use Rattle.roots.specs.Root.{cbrt_of, nearest_root}
use Rattle.roots.specs.Rules.{cbrt_nan, cbrt_infinity, cbrt_zero}
use Rattle.roots.specs.Parts.{mag_bits}
use Rattle.roots.proofs.Patterns.{worth, infinite, is_zero, sign_bits, cbrt_of_lem, zero_stays, mag_pos, is_number, no_nan_pattern}
use Rattle.laws.specs.Nan.{nan_is}
use Rattle.roots.proofs.cbrt.Goals as goal

pub returns-then-is_nan : goal.returns-then-is_nan
returns-then-is_nan c = let z = nan_is c.args.x (subst T (sym (sym c.is_nan.ensures.value ∙ c.if-is_nan.true)) tt) in z ∙ sym cbrt_nan ∙ ap (λ (v : Float). cbrt_of v) (sym z)

pub returns-then-a-eq0 : goal.returns-then-a-eq0
returns-then-a-eq0 c = zero_stays _ _ (is_zero _ (subst T (sym c.well_formed.0.1) tt) c.if-a-eq0.true) cbrt_of cbrt_zero

pub overflow_mul-result : goal.overflow_mul-result
overflow_mul-result c = omega (arith, to_bits-lt binary32 _ (subst T (sym c.well_formed.0.1) tt))

pub overflow_add-result : goal.overflow_add-result
overflow_add-result c = let h = c.cbrt_bits.ensures.number in omega (arith, to_bits-lt binary32 _ (subst T (sym c.well_formed.0.1) tt))

pub float_from_bits-result : goal.float_from_bits-result
float_from_bits-result c = let h = c.cbrt_bits.ensures.number in no_nan_pattern _ (omega arith)

root_is : (x : Float) → T (fits binary32 x) → (to_bits binary32 x % 2 ^ 31 ≡ 0 → ⊥) → to_bits binary32 x % 2 ^ 31 < 0x7f80_0000 → cbrt_of x ≡ nearest_root (leb (2 ^ 31) (to_bits binary32 x)) 3 (mag_bits (to_bits binary32 x % 2 ^ 31) * 2 ^ 298)
root_is x F z l = cbrt_of_lem x _ _ (mag_pos (to_bits binary32 x % 2 ^ 31) (omega arith)) (worth x F l)

pub returns-then-a-lt2139095040 : goal.returns-then-a-lt2139095040
returns-then-a-lt2139095040 c =
    let x = c.args.x in
    let F = subst T (sym c.well_formed.0.1) tt in
    ap (λ (n : ℕ). of_bits binary32 (n + c.cbrt_bits.result)) (sign_bits x F)
    ∙ c.cbrt_bits.ensures.right (leb (2 ^ 31) (to_bits binary32 x))
    ∙ sym (root_is x F c.if-a-eq0.false c.if-a-lt2139095040.true)

infinity : (x : Float) → T (fits binary32 x) → T (not (lib.Ieee.is_nan x)) → 0x7f80_0000 ≤ to_bits binary32 x % 2 ^ 31 → x ≡ cbrt_of x
infinity x F N l = let z = infinite x F N l in z ∙ sym (cbrt_infinity _) ∙ ap (λ (v : Float). cbrt_of v) (sym z)

pub returns : goal.returns
returns c = infinity _ (subst T (sym c.well_formed.0.1) tt) (is_number _ (sym c.is_nan.ensures.value ∙ c.if-is_nan.false)) c.if-a-lt2139095040.false
