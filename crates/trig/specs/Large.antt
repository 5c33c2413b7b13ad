-- What the reduction of a large angle leaves out. Assumes nothing.
use Rattle.std.specs.Prelude.{◌≡◌, ℕ, ◌+◌, ◌-◌, ◌*◌, ◌/◌, ◌%◌, ◌^◌, ◌≤◌, ◌<◌}
use Rattle.std.proofs.Common.{ap, sym, subst, ◌∙◌, le_trans, le_of_eq, le_of_lt, lt_of_le_of_lt, lt_of_lt_of_le, mul_assoc, mul-le-mul_left, mul-le-mul_right, mul-lt-mul_of_pos_right, div-mul-le_self, arith, pow_pos, pow-add}
use Rattle.std.proofs.Math.Nat.{lt-div-mul-add}
use Rattle.trig.specs.Trig.{two_over_pi, units_of}

-- so many units of size s, with x in them: none too many, and fewer than two too few
pub record Near (u s x : ℕ) : Type 0 where
  pub low : u * s ≤ x
  pub high : x < (u + 2) * s

module _ (m t q : ℕ) (most : m ≤ 2 ^ 24) (above : 0 < q) where
  abbrev n : ℕ
  n = t / q

  abbrev u : ℕ
  u = m * n / 2 ^ 24

  spread : m * (n * q + q) ≡ (m * n + m) * q
  spread = omega arith

  next : m * n + m < (u + 2) * 2 ^ 24
  next = let h = lt-div-mul-add {a = m * n} {b = 2 ^ 24} (pow_pos 24) in omega arith

  near : Near u (2 ^ 24 * q) (m * t)
  near = record {
    low = le_trans (le_of_eq (sym (mul_assoc u (2 ^ 24) q)))
        (le_trans (mul-le-mul_right q (div-mul-le_self (m * n) (2 ^ 24))) (le_trans (le_of_eq (mul_assoc m n q)) (mul-le-mul_left m (div-mul-le_self t q))));
    high = lt_of_le_of_lt (le_trans (mul-le-mul_left m (le_of_lt (lt-div-mul-add above))) (le_of_eq spread))
        (lt_of_lt_of_le (mul-lt-mul_of_pos_right next above) (le_of_eq (mul_assoc (u + 2) (2 ^ 24) q)));
  }

more : (u s x k : ℕ) → Near u s x → Near (u + k) s (x + k * s)
more u s x k h = record { low = omega arith; high = omega arith }

size : (e : ℕ) → e < 256 → 2 ^ 24 * 2 ^ (280 - e) ≡ 2 ^ (304 - e)
size e h =
    let p : 24 + (280 - e) ≡ 304 - e = omega arith in
    sym (pow-add 2 24 (280 - e)) ∙ ap (λ (k : ℕ). 2 ^ k) p

-- an angle m · 2 ^ (e - 150) has m · two_over_pi · 2 ^ (e - 304) units of 2 ^ -38 of a quarter turn, and half a quarter turn has 2 ^ 37
pub units_near : (b : ℕ) → let m = 2 ^ 23 + b % 2 ^ 23 in let unit = 2 ^ (304 - b / 2 ^ 23 % 256) in Near (units_of b) unit (m * two_over_pi + 2 ^ 37 * unit)
unfolding units_of
units_near b =
    let m = 2 ^ 23 + b % 2 ^ 23 in
    let e = b / 2 ^ 23 % 256 in
    subst (λ (s : ℕ). Near (units_of b) s (m * two_over_pi + 2 ^ 37 * s)) (size e (omega arith))
    (more (m * (two_over_pi / 2 ^ (280 - e)) / 2 ^ 24) (2 ^ 24 * 2 ^ (280 - e)) (m * two_over_pi) (2 ^ 37) (near m two_over_pi (2 ^ (280 - e)) (omega arith) (pow_pos (280 - e))))
