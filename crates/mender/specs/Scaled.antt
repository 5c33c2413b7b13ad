-- A whole number digits * 2^shift, and its half. Definitions only.
use Rattle.std.specs.Prelude.{ℕ, zero, suc, ◌+◌, ◌-◌, ◌*◌, ◌/◌, ◌%◌, ◌^◌}
use Rattle.mender.specs.declared.near.Scaled.{Scaled}

abbrev pub value_of : Scaled → ℕ
value_of n = n.digits * 2 ^ n.shift

unfoldable pub halved : ℕ → ℕ → Scaled
halved m zero = record { digits = m / 2; shift = 0 }
halved m (suc s) = record { digits = m; shift = s }

abbrev pub half_of : Scaled → Scaled
half_of n = halved n.digits n.shift

-- what halving leaves over
unfoldable pub left_over : ℕ → ℕ → ℕ
left_over m zero = m % 2
left_over m (suc s) = 0

abbrev pub low_of : Scaled → ℕ
low_of n = left_over n.digits n.shift

-- what is carried on when three are halved, of which the first is taken from the others
abbrev pub carry_of : Scaled → Scaled → Scaled → ℕ → ℕ
carry_of u v w carry = (carry + 1 + low_of v + low_of w - low_of u) / 2
