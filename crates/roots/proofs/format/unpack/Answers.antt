-- `roots::format::unpack` meets its contract: the fields of the bits are the number's. Assumes nothing.
use Rattle.std.proofs.Common.{◌≡◌, ℕ, ◌+◌, ◌-◌, ◌*◌, ◌/◌, ◌%◌, ◌^◌, sym, ap, ◌∙◌, mul_assoc, arith, pow-add}
use Rattle.roots.specs.Parts.{mag_bits}
use Rattle.roots.proofs.Patterns.{full}
use Rattle.roots.proofs.format.unpack.Goals as goal

moved : (b : ℕ) → (b / 8388608 ≡ 0 → ⊥) → (b % 8388608 + 8388608) * 2 ^ (b / 8388608 + 148) ≡ mag_bits b * 2 ^ 149
moved b n =
    let e : b / 8388608 + 148 ≡ b / 8388608 - 1 + 149 = omega arith in
    ap (λ (x : ℕ). (b % 8388608 + 8388608) * 2 ^ x) e
    ∙ ap (λ (x : ℕ). (b % 8388608 + 8388608) * x) (pow-add 2 (b / 8388608 - 1) 149)
    ∙ sym (mul_assoc (b % 8388608 + 8388608) (2 ^ (b / 8388608 - 1)) (2 ^ 149))
    ∙ ap (λ (x : ℕ). x * 2 ^ 149) (full b n)

pub returns-else-x-eq0 : goal.returns-else-x-eq0
returns-else-x-eq0 c =
    let b = c.args.b in
    record { least = omega arith; most = omega arith; lowest = omega arith; highest = omega arith; value = moved b c.if-x-eq0.false }
