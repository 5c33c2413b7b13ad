-- Squares and products by parts, and the test of a cube root by these. Assumes nothing.
use Rattle.std.proofs.Common.{◌≡◌, ℕ, zero, suc, ◌+◌, ◌-◌, ◌*◌, ◌/◌, ◌%◌, ◌^◌, ◌<◌, ◌≤◌, refl, ap, subst, mul-le-mul, div-add-mod', arith}
use Rattle.roots.specs.Parts.{CubeNear}

pub square_le : (q : ℕ) → q < 2 ^ 24 → q * q ≤ 281474943156225
square_le q h = mul-le-mul {n₂ = 16777215} {m₂ = 16777215} (omega arith) (omega arith)

-- ---- `square`: q = h * 2 ^ 16 + l
pub square_is : (q : ℕ) → q / 65536 * (q + q % 65536) * 65536 + q % 65536 * (q % 65536) ≡ q * q
square_is q = at (q / 65536) (q % 65536) (div-add-mod' q 65536)
  where
    at : (h l : ℕ) → h * 65536 + l ≡ q → h * (q + l) * 65536 + l * l ≡ q * q
    at h l e = omega (arith, ap (λ (x : ℕ). x * q) e, ap (λ (x : ℕ). l * x) e)

-- ---- `product`: n = a * 2 ^ 16 + b, q = h * 2 ^ 16 + l
pub product_is : (n q : ℕ) → n / 65536 * (q / 65536) * 4294967296 + (n / 65536 * (q % 65536) + n % 65536 * (q / 65536)) * 65536 + n % 65536 * (q % 65536) ≡ n * q
product_is n q = at (n / 65536) (n % 65536) (q / 65536) (q % 65536) (div-add-mod' n 65536) (div-add-mod' q 65536)
  where
    at : (a b h l : ℕ) → a * 65536 + b ≡ n → h * 65536 + l ≡ q → a * h * 4294967296 + (a * l + b * h) * 65536 + b * l ≡ n * q
    at a b h l e f = omega (arith, ap (λ (x : ℕ). x * q) e, ap (λ (x : ℕ). a * x) f, ap (λ (x : ℕ). b * x) f)

-- ---- `square_times`: m = h * 2 ^ 12 + l
pub square_times_is : (m w : ℕ) → m / 4096 * (m / 4096) * w * 16777216 + m / 4096 * (m % 4096) * w * 8192 + m % 4096 * (m % 4096) * w ≡ m * m * w
square_times_is m w = at (m / 4096) (m % 4096) (div-add-mod' m 4096)
  where
    at : (h l : ℕ) → h * 4096 + l ≡ m → h * h * w * 16777216 + h * l * w * 8192 + l * l * w ≡ m * m * w
    at h l e = omega (arith, ap (λ (x : ℕ). x * x * w) e)

-- ---- `is_near`: n * 2 ^ 16 + low is q², and n * q + low * (q / 2 ^ 16) is q³ / 2 ^ 16 but for less than 2 ^ 16
module _ (q n low : ℕ) (Q : q < 2 ^ 24) (is : n * 65536 + low ≡ q * q) (L : low < 65536) where
  rest_le : low * (q % 65536) ≤ 4294836225
  rest_le = mul-le-mul {n₂ = 65535} {m₂ = 65535} (omega arith) (omega arith)

  cube_is : (n * q + low * (q / 65536)) * 65536 + low * (q % 65536) ≡ q * q * q
  cube_is = omega (arith, ap (λ (x : ℕ). x * q) is, ap (λ (x : ℕ). low * x) (div-add-mod' q 65536))

  pub part_fits : low * (q / 65536) ≤ 16711425
  part_fits = mul-le-mul {n₂ = 65535} {m₂ = 255} (omega arith) (omega arith)

  module _ (t c : ℕ) (T : t < 2 ^ 50) (C : c ≡ n * q) where
    under : t * 64 ≤ c + low * (q / 65536) + (n + n / 2) → t * 2 ^ 25 < (2 * q + 1) * (2 * q + 1) * (2 * q + 1)
    under h = omega (arith, C, cube_is, is)

    over : (p : ℕ) → suc p ≡ q → c + low * (q / 65536) + 65792 ≤ t * 64 + (n + n / 2) → (2 * p + 1) * (2 * p + 1) * (2 * p + 1) < t * 2 ^ 25
    over p e h = omega (arith, C, cube_is, rest_le, is, ap (λ (x : ℕ). x * x) e, ap (λ (x : ℕ). x * x * x) e)

    pub near : t * 64 % 18446744073709551616 ≤ c + low * (q / 65536) + (n + n / 2) → c + low * (q / 65536) + 65792 ≤ t * 64 % 18446744073709551616 + (n + n / 2) → CubeNear t q
    near l h = record { above = go q refl; below = under (omega arith) }
      where
        go : (x : ℕ) → x ≡ q → (2 * x - 1) * (2 * x - 1) * (2 * x - 1) < t * 2 ^ 25
        go zero e = omega (arith, part_fits, is, ap (λ (x : ℕ). x * x) e)
        go (suc p) e = let f : 2 * p + 1 ≡ 2 * suc p - 1 = omega arith in subst (λ (x : ℕ). x * x * x < t * 2 ^ 25) f (over p e (omega arith))
