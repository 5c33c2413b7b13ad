-- `trig::digits` meets its contract. Assumes nothing.
use mathlib.Core.Path.{◌≡◌, ap, sym, ◌∙◌}
use Prim.Native.Nat.{ℕ, ◌+◌, ◌-◌, ◌*◌, ◌/◌, ◌%◌, ◌^◌, ◌≤◌}
use native.Mathlib.Omega.{arith}
use lib.Pow.{shr-shr, field, mod-mod-pow, mod-pow-add}
use Rattle.trig.specs.Trig.{two_over_pi}
use borrow.Author.Rules.{rules}
use Rattle.trig.proofs.digits.Goals as goal

-- the word i of t and the next, as 64 digits
paired : (t i : ℕ) → i ≤ 9 → t / 2 ^ (32 * (10 - i)) % 2 ^ 32 * 2 ^ 32 + t / 2 ^ (32 * (10 - (i + 1))) % 2 ^ 32 ≡ t / 2 ^ (32 * (9 - i)) % 2 ^ 64
paired t i h =
    let p : 32 * (10 - i) ≡ 32 * (9 - i) + 32 = omega arith in
    let q : 10 - (i + 1) ≡ 9 - i = omega arith in
    rw (p, q, ← shr-shr t (32 * (9 - i)) 32) (sym (mod-pow-add (t / 2 ^ (32 * (9 - i))) 32 32))

-- of 64 digits, 32 that have s behind them
window : (x s : ℕ) → s ≤ 32 → x % 2 ^ 64 / 2 ^ s % 2 ^ 32 ≡ x / 2 ^ s % 2 ^ 32
window x s h =
    let e : 64 ≡ (64 - s) + s = omega arith in
    let d : 64 - s ≡ (32 - s) + 32 = omega arith in
    ap (λ (n : ℕ). x % 2 ^ n / 2 ^ s % 2 ^ 32) e
    ∙ ap (λ (v : ℕ). v % 2 ^ 32) (field x (64 - s) s)
    ∙ ap (λ (n : ℕ). x / 2 ^ s % 2 ^ n % 2 ^ 32) d
    ∙ mod-mod-pow (x / 2 ^ s) (32 - s) 32

cut : (t p : ℕ) → p ≤ 319 → t / 2 ^ (32 * (9 - p / 32)) % 2 ^ 64 / 2 ^ (32 - p % 32) % 2 ^ 32 ≡ t / 2 ^ (320 - p) % 2 ^ 32
cut t p h =
    let e : 32 * (9 - p / 32) + (32 - p % 32) ≡ 320 - p = omega arith in
    window (t / 2 ^ (32 * (9 - p / 32))) (32 - p % 32) (omega arith)
    ∙ ap (λ (n : ℕ). n % 2 ^ 32) (shr-shr t (32 * (9 - p / 32)) (32 - p % 32) ∙ ap (λ (n : ℕ). t / 2 ^ n) e)

pub returns : goal.returns
returns c =
    let p = c.args.place in
    rw (c.word.ensures, c.word-2.ensures, paired two_over_pi (p / 32) (omega arith)) (cut two_over_pi p (search rules))
