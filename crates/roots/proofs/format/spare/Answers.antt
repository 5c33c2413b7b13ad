-- `roots::format::spare` meets its contract: r has 64 digits but for its leading zeros. Assumes nothing.
use Rattle.std.proofs.Common.{◌≡◌, ℕ, ◌+◌, ◌-◌, ◌*◌, ◌^◌, ◌<◌, ◌≤◌, le_trans, le_of_eq, lt_of_lt_of_le, lt_of_not-le, lt_irrefl, inl, inr, arith, sym, ap, ◌∙◌, pow_mono, pow-suc, pow-add}
use lib.Count.{leading_length}
use native.Mathlib.Decide.{dec_lt}
use lib.Ieee.{size}
use Rattle.roots.proofs.Packing.{digits_of}
use Rattle.roots.proofs.format.spare.Goals as goal

-- r has m digits
long : (r m : ℕ) → 25 < m → 2 ^ m ≤ 2 * r + 1 → 2 ^ (24 + (m - 25)) ≤ r
long r m h l = at (2 ^ (24 + (m - 25))) (le_trans (le_of_eq (sym (pow-suc 2 (24 + (m - 25))) ∙ ap (λ (x : ℕ). 2 ^ x) (omega arith))) l)
  where
    at : (x : ℕ) → x * 2 ≤ 2 * r + 1 → x ≤ r
    at x k = omega arith

few : (r m : ℕ) → r < 2 ^ 40 → 2 ^ m ≤ 2 * r + 1 → m ≤ 40
few r m h l = elim (dec_lt 40 m) [
  | yes k ↦ (let g : 2 ^ 41 ≤ 2 ^ m = pow_mono k in absurd (lt_irrefl 0 (omega arith)))
  | no k ↦ (let g = lt_of_not-le k in omega arith)
]

spared : (r m : ℕ) → r < 2 ^ m → 2 ^ m ≤ 2 * r + 1 → m - 25 ≡ size r - 25
spared r m h l =
    digits_of r (m - 25) (lt_of_lt_of_le h (le_trans (pow_mono {i = m} {j = 25 + (m - 25)} (omega arith)) (le_of_eq (pow-add 2 25 (m - 25))))) (elim (dec_lt 25 m) [
      | yes k ↦ inr (long r m k l)
      | no k ↦ (let g = lt_of_not-le k in inl (omega arith))
    ])

pub returns : goal.returns
returns c =
    let r = c.args.r in
    let z = leading_length 64 r (omega arith) in
    let s : z.0 - 25 ≡ size r - 25 = spared r z.0 z.2 z.3 in
    let f : z.0 ≤ 40 = few r z.0 c.requires z.3 in
    (omega arith, omega arith)
