-- `roots::sum::fours` meets its contract. Assumes nothing.
use Rattle.std.proofs.Common.{◌≡◌, ℕ, ◌*◌, ◌%◌, ◌^◌, ◌≤◌, ◌∙◌, arith, pow_mono}
use Rattle.roots.specs.Laws.{pow_mul}
use Rattle.roots.proofs.sum.fours.Goals as goal

small : (x : ℕ) → x ≤ 2 ^ 24 → 1 * x % 2 ^ 64 ≡ x
small x h = omega arith

pub returns : goal.returns
returns c = small (2 ^ (c.args.d * 2)) (pow_mono {i = c.args.d * 2} {j = 24} (omega arith)) ∙ pow_mul 2 c.args.d 2
