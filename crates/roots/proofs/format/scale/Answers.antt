-- `roots::format::scale` meets its contract. The invariant: m * 2 ^ t stays n * 2 ^ 149, and m has at least 150 - t digits. Assumes nothing.
use Rattle.std.proofs.Common.{◌≡◌, ℕ, suc, ◌-◌, ◌*◌, ◌^◌, ◌<◌, ◌≤◌, sym, ap, ◌∙◌, subst, le_trans, lt_of_lt_of_le, lt_irrefl, mul_assoc, lt_of_not-le, arith, pow_mono}
use native.Mathlib.Nat.{pow-succ'}
use Rattle.roots.proofs.format.scale.Goals as goal

-- m is below 2 ^ j, so fewer than j places were moved
moved : (m t j : ℕ) → 2 ^ (149 - t) ≤ m → m < 2 ^ j → 149 - t < j
moved m t j h l = lt_of_not-le (λ (g : j ≤ 149 - t). lt_irrefl m (lt_of_lt_of_le l (le_trans (pow_mono g) h)))

module _ (a m t : ℕ) (i : (t ≤ 149) × (m < 2 ^ 24) × (2 ^ (149 - t) ≤ m) × (m * 2 ^ t ≡ a)) (h : m < 2 ^ 23) where
  some : 126 < t
  some = let l = moved m t 23 i.2 h in omega arith

  next : (t - 1 ≤ 149) × (m * 2 < 2 ^ 24) × (2 ^ (149 - (t - 1)) ≤ m * 2) × (m * 2 * 2 ^ (t - 1) ≡ a)
  next =
      let g : 149 - (t - 1) ≡ suc (149 - t) = omega (arith, some) in
      let b : t ≡ suc (t - 1) = omega (arith, some) in
      (omega arith, omega arith, subst (λ (x : ℕ). 2 ^ x ≤ m * 2) (sym g) (omega arith), mul_assoc m 2 (2 ^ (t - 1)) ∙ ap (λ (x : ℕ). m * x) (sym (pow-succ' 2 (t - 1)) ∙ ap (λ (x : ℕ). 2 ^ x) (sym b)) ∙ i.3)

pub loop-m-preserved : goal.loop-m-preserved
loop-m-preserved c = next _ _ _ c.loop-m.invariant c.loop-m-test.true

pub returns : goal.returns
returns c =
    let i = c.loop-m.invariant in
    let l = moved c.loop-m.m c.loop-m.t 24 i.2 i.1 in
    record { least = c.loop-m-test.false; most = i.1; lowest = omega arith; highest = omega arith; value = i.3 }
