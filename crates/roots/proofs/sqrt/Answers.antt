-- `roots::sqrt` meets its contract, by the pattern of x. Assumes nothing.
use Rattle.std.proofs.Common.{◌≡◌, ℕ, ◌+◌, ◌*◌, ◌%◌, ◌^◌, ◌<◌, ◌≤◌, false, T, sym, ap, ◌∙◌, subst, lt_irrefl, zero-add, arith}
use lib.Ieee.Bits.{to_bits-lt}
use lib.Ieee.{Float, binary32, of_bits, to_bits, fits}
use Rattle.roots.specs.Root.{sqrt_of, nearest_root}
use Rattle.roots.specs.Parts.{mag_bits, root_bits}
use Rattle.roots.proofs.Patterns.{no_nan_pattern}
use Rattle.roots.proofs.Upward.{sqrt_is, keeps_nan, positive}
use Rattle.roots.proofs.sqrt.Goals as goal

-- what the one test tells of a pattern b
normal : (b w : ℕ) → b < 2 ^ 32 → (w + 8388608) % 2 ^ 32 ≡ b → w < 0x7f00_0000 → (2 ^ 23 ≤ b) × (b < 0x7f80_0000)
normal b w l e h = (omega arith, omega arith)

of_normal : (x : Float) (r : ℕ) → T (fits binary32 x) → 2 ^ 23 ≤ to_bits binary32 x → to_bits binary32 x < 0x7f80_0000 → root_bits 2 (mag_bits (to_bits binary32 x) * 2 ^ 149) r → of_bits binary32 r ≡ sqrt_of x
of_normal x r F h l R =
    let b = to_bits binary32 x in
    let e : b % 2 ^ 31 ≡ b = omega arith in
    ap (λ (n : ℕ). of_bits binary32 n) (sym (zero-add r))
    ∙ R.right false
    ∙ ap (λ (n : ℕ). nearest_root false 2 (mag_bits n * 2 ^ 149)) (sym e)
    ∙ sym (positive _ _ sqrt_is x F (λ z. lt_irrefl 0 (omega arith)) (omega arith) (omega arith))

pub returns-then-is_nan : goal.returns-then-is_nan
returns-then-is_nan c = keeps_nan _ _ sqrt_is _ (sym c.is_nan.ensures.value ∙ c.if-is_nan.true)

pub float_from_bits-result : goal.float_from_bits-result
float_from_bits-result c = let h = c.sqrt_bits.ensures.number in no_nan_pattern c.sqrt_bits.result (omega arith)

pub returns-then-wrapping_sub_u32-lt2130706432 : goal.returns-then-wrapping_sub_u32-lt2130706432
returns-then-wrapping_sub_u32-lt2130706432 c =
    let n = normal _ _ (to_bits-lt binary32 c.args.x (subst T (sym c.well_formed.0.1) tt)) c.wrapping_sub_u32.ensures.value c.if-wrapping_sub_u32-lt2130706432.true in
    of_normal _ _ (subst T (sym c.well_formed.0.1) tt) n.0 n.1 c.sqrt_bits.ensures
