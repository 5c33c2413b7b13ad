-- `roots::narrow::square_times` meets its contract. Assumes nothing.
use Rattle.std.proofs.Common.{ℕ, ◌*◌, ◌/◌, ◌%◌, ◌^◌, ◌<◌, ◌≤◌, mul-le-mul, arith}
use Rattle.roots.proofs.Products.{square_times_is}
use Rattle.roots.proofs.narrow.square_times.Goals as goal

-- no product of parts is above 32 digits
hh : (m : ℕ) → m < 2 ^ 24 → m / 4096 * (m / 4096) ≤ 16769025
hh m M = mul-le-mul {n₂ = 4095} {m₂ = 4095} (omega arith) (omega arith)

hl : (m : ℕ) → m < 2 ^ 24 → m / 4096 * (m % 4096) ≤ 16769025
hl m M = mul-le-mul {n₂ = 4095} {m₂ = 4095} (omega arith) (omega arith)

hhw : (m w : ℕ) → m < 2 ^ 24 → w ≤ 8 → m / 4096 * (m / 4096) * w ≤ 134152200
hhw m w M W = mul-le-mul {n₂ = 16769025} {m₂ = 8} (hh m M) W

hlw : (m w : ℕ) → m < 2 ^ 24 → w ≤ 8 → m / 4096 * (m % 4096) * w ≤ 134152200
hlw m w M W = mul-le-mul {n₂ = 16769025} {m₂ = 8} (hl m M) W

pub returns : goal.returns
returns c = omega (arith, hhw c.args.m c.args.w c.requires.0 c.requires.1, hlw c.args.m c.args.w c.requires.0 c.requires.1, square_times_is c.args.m c.args.w)
