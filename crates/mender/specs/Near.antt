-- How far two coordinates are apart, exactly. Definitions only.
use Rattle.std.specs.Prelude.{ℕ, zero, suc, ◌+◌, ◌-◌, ◌*◌, ◌/◌, ◌%◌, ◌^◌, ◌≡◌, Bool, true, false, leb}

-- a number's magnitude in steps of 2^-149, from its exponent's field and its digits
unfoldable pub steps_of : ℕ → ℕ → ℕ
steps_of zero t = t * 2 ^ 0
steps_of (suc x) t = (8388608 + t) * 2 ^ x

-- the magnitude of the coordinate with the bits w, in steps of 2^-149
unfoldable pub steps : ℕ → ℕ
steps w = steps_of (w % 2147483648 / 8388608) (w % 8388608)

-- its sign
unfoldable pub minus : ℕ → Bool
minus w = leb 2147483648 w

-- so many units, in steps
unfoldable pub units_of : ℕ → ℕ
units_of t = t * 2 ^ 149

-- how far two numbers of given signs and magnitudes are apart
unfoldable pub apart : Bool → ℕ → Bool → ℕ → ℕ
apart true m true n = (m - n) + (n - m)
apart false m false n = (m - n) + (n - m)
apart true m false n = m + n
apart false m true n = m + n

-- two coordinates differ by at most t units
unfoldable pub is_near : ℕ → ℕ → ℕ → Bool
is_near t a b = leb (apart (minus a) (steps a) (minus b) (steps b)) (units_of t)

abbrev pub Near : ℕ → ℕ → ℕ → Type 0
Near t a b = is_near t a b ≡ true
