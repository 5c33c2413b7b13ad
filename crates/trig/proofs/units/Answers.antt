-- `trig::units` meets its contract. Assumes nothing.
use mathlib.Core.Path.{◌≡◌, ap, sym, ◌∙◌}
use Prim.Native.Nat.{ℕ, ◌+◌, ◌-◌, ◌*◌, ◌/◌, ◌%◌, ◌^◌, ◌<◌}
use native.Mathlib.Omega.{arith}
use lib.Pow.{shr-shr}
use Rattle.trig.specs.Trig.{two_over_pi, units_of}
use Rattle.trig.proofs.units.Goals as goal

-- ---- m times digits of 2/π, n: those before the last 64 give whole turns
linear : (a b d : ℕ) → (b * 256 + d / 2 ^ 24 + 2 ^ 37) % 2 ^ 40 ≡ ((a * 2 ^ 64 + b * 2 ^ 32 + d) / 2 ^ 24 + 2 ^ 37) % 2 ^ 40
linear a b d = omega arith

parts : (n : ℕ) → n ≡ n / 2 ^ 32 / 2 ^ 32 * 2 ^ 64 + n / 2 ^ 32 % 2 ^ 32 * 2 ^ 32 + n % 2 ^ 32
parts n = omega arith

spread : (m z h l : ℕ) → m * (z * 2 ^ 64 + h * 2 ^ 32 + l) ≡ m * z * 2 ^ 64 + m * h * 2 ^ 32 + m * l
spread m z h l = omega arith

halves : (m n : ℕ) → (m * (n / 2 ^ 32 % 2 ^ 32) * 256 + m * (n % 2 ^ 32) / 2 ^ 24 + 2 ^ 37) % 2 ^ 40 ≡ (m * n / 2 ^ 24 + 2 ^ 37) % 2 ^ 40
halves m n =
    linear (m * (n / 2 ^ 32 / 2 ^ 32)) (m * (n / 2 ^ 32 % 2 ^ 32)) (m * (n % 2 ^ 32))
    ∙ ap (λ (v : ℕ). (v / 2 ^ 24 + 2 ^ 37) % 2 ^ 40) (sym (ap (λ (v : ℕ). m * v) (parts n) ∙ spread m (n / 2 ^ 32 / 2 ^ 32) (n / 2 ^ 32 % 2 ^ 32) (n % 2 ^ 32)))

high : (e : ℕ) → e < 256 → two_over_pi / 2 ^ (320 - (e + 8)) ≡ two_over_pi / 2 ^ (280 - e) / 2 ^ 32
high e h =
    let p : 320 - (e + 8) ≡ 280 - e + 32 = omega arith in
    ap (λ (k : ℕ). two_over_pi / 2 ^ k) p ∙ sym (shr-shr two_over_pi (280 - e) 32)

low : (e : ℕ) → 320 - (e + 40) ≡ 280 - e
low e = omega arith

units_are : (m e : ℕ) {h l : ℕ} → e < 256 → h ≡ two_over_pi / 2 ^ (320 - (e + 8)) % 2 ^ 32 → l ≡ two_over_pi / 2 ^ (320 - (e + 40)) % 2 ^ 32
    → (m * h * 256 + m * l / 2 ^ 24 + 2 ^ 37) % 2 ^ 40 ≡ (m * (two_over_pi / 2 ^ (280 - e)) / 2 ^ 24 + 2 ^ 37) % 2 ^ 40
units_are m e b p q = rw (p, q, high e b, low e) (halves m (two_over_pi / 2 ^ (280 - e)))

pub returns : goal.returns
unfolding units_of
returns c = units_are _ _ (omega arith) c.digits.ensures c.digits-2.ensures
