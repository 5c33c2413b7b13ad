-- `roots::narrow::product` meets its contract. Assumes nothing.
use Rattle.std.proofs.Common.{ℕ, ◌*◌, ◌/◌, ◌%◌, ◌^◌, ◌<◌, ◌≤◌, mul-le-mul, arith}
use Rattle.roots.proofs.Products.{product_is}
use Rattle.roots.proofs.narrow.product.Goals as goal

-- no product of two parts is above 32 digits
ah : (n q : ℕ) → n < 2 ^ 32 → q < 2 ^ 24 → n / 65536 * (q / 65536) ≤ 16711425
ah n q N Q = mul-le-mul {n₂ = 65535} {m₂ = 255} (omega arith) (omega arith)

al : (n q : ℕ) → n < 2 ^ 32 → n / 65536 * (q % 65536) ≤ 4294836225
al n q N = mul-le-mul {n₂ = 65535} {m₂ = 65535} (omega arith) (omega arith)

bh : (n q : ℕ) → q < 2 ^ 24 → n % 65536 * (q / 65536) ≤ 16711425
bh n q Q = mul-le-mul {n₂ = 65535} {m₂ = 255} (omega arith) (omega arith)

pub returns : goal.returns
returns c = omega (arith, ah c.args.n c.args.q (omega arith) c.requires, al c.args.n c.args.q (omega arith), bh c.args.n c.args.q c.requires, product_is c.args.n c.args.q)
