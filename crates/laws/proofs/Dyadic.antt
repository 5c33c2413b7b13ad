-- Two numbers u / 2 ^ k are equal as the program compares them where the fractions are, and so the subdivision's loop sees its end. Assumes nothing.
use Rattle.std.specs.Prelude.{◌≡◌, ◌↔◌, false, ℕ, ◌*◌, ◌^◌, ◌≤◌, ◌<◌, T, Float}
use Rattle.std.proofs.Common.{sym, ◌∙◌, subst, inl, le_trans, lt_of_le_of_lt, mul-one, one-mul, lit<, lit≤, pow_pos}
use Rattle.std.specs.Float.{Format, binary32}
use Rattle.std.specs.Float.Ieee.{prec, low, eq}
use Rattle.std.specs.Float.Ieee.Scale.{round_same}
use Rattle.laws.specs.Same.{one}
use Rattle.laws.proofs.Same.{same→eq}
use Rattle.laws.specs.Dyadic.{eq_values, dy, dy_val, value_not_nan, at, one_few, step_start}

-- ---- u / 2 ^ k
pub dy_eq : (f : Format) (u k v j : ℕ) → u < 2 ^ prec f → k ≤ low f → v < 2 ^ prec f → j ≤ low f → T (eq (dy f u k) (dy f v j)) ↔ (u * 2 ^ j ≡ v * 2 ^ k)
dy_eq f u k v j h g h' g' = (
  eq_values (dy f u k) (dy f v j) u (2 ^ k) v (2 ^ j) (pow_pos k) (pow_pos j) (dy_val f u k h g) (dy_val f v j h' g'),
  (λ (e : u * 2 ^ j ≡ v * 2 ^ k). same→eq (dy f u k) (dy f v j) (value_not_nan (dy f u k) false u (2 ^ k) (dy_val f u k h g)) (inl (round_same f false u (2 ^ k) v (2 ^ j) (pow_pos k) (pow_pos j) e))),
)

-- ---- the steps of a subdivision, in binary32: t0 = u * dt, t1 = t0 + dt with dt = 2 ^ -k
few : (u : ℕ) → u ≤ 65536 → u < 2 ^ 24
few u h = lt_of_le_of_lt h (lit< tt)

fine : (k : ℕ) → k ≤ 16 → k ≤ 149
fine k h = le_trans h (lit≤ tt)

-- the loop's test for the end, and its test for the smallest step
pub at_end : (u k : ℕ) → u ≤ 65536 → k ≤ 16 → T (eq (at u k) one) ↔ (u ≡ 2 ^ k)
at_end u k h g =
    let i = dy_eq binary32 u k 1 0 (few u h) (fine k g) one_few (lit≤ tt) in (
      (λ (e : T (eq (at u k) one)). sym (mul-one u) ∙ i.0 (subst (λ (z : Float). T (eq (at u k) z)) (sym step_start) e) ∙ one-mul (2 ^ k)),
      (λ (e : u ≡ 2 ^ k). subst (λ (z : Float). T (eq (at u k) z)) step_start (i.1 (mul-one u ∙ e ∙ sym (one-mul (2 ^ k))))),
    )
