-- Bytes and their symbols, and room for one more digit. Assumes nothing.
use mathlib.Core.Path.{◌≡◌, refl, sym, ap}
use mathlib.Core.Bool.{Bool, true, false, false≢true}
use Prim.Native.Nat.{ℕ, ◌+◌, ◌-◌, ◌^◌, ◌≤◌, ◌<◌}
use native.Mathlib.Nat.{lt_of_lt_of_le, pow-le-pow_right}
use native.Mathlib.Omega.{arith}
use borrow.Author.Tests.{ltb-false, leb-true}
use lib.Dec.{ltb, leb}
use Rattle.svg.specs.declared.steps.Num.{Num}
use Rattle.svg.specs.Machine.{Held}
use Rattle.svg.specs.declared.steps.Symbol.TheVariants.{Digit}
use Rattle.svg.specs.Language.{pick, symbol_of, digit_byte}

pub pick_no : {A : Type 0} (t : Bool) (x y : A) → t ≡ false → pick t x y ≡ y
pick_no t x y e = ap (λ (t : Bool). pick t x y) e

pub pick_yes : {A : Type 0} (t : Bool) (x y : A) → t ≡ true → pick t x y ≡ x
pick_yes t x y e = ap (λ (t : Bool). pick t x y) e

pub both : (t u : Bool) → pick t u false ≡ true → (t ≡ true) × (u ≡ true)
both true u e = (refl, e)
both false u e = absurd (false≢true e)

digit_way : (b : ℕ) (t : Bool) → ltb b 48 ≡ t → pick t false (leb b 57) ≡ true → (48 ≤ b) × (b ≤ 57)
digit_way b true e h = let z : ◌≡◌ {A = ℕ} 0 1 = cc in absurd (zero_one z)
  where
    zero_one : ◌≡◌ {A = ℕ} 0 1 → ⊥
    zero_one z = omega arith
digit_way b false e h = (ltb-false b 48 e, leb-true b 57 h)

pub digit_bounds : (b : ℕ) → digit_byte b ≡ true → (48 ≤ b) × (b ≤ 57)
digit_bounds b h = digit_way b (ltb b 48) refl h

pub symbol_digit : (b : ℕ) → digit_byte b ≡ true → Digit (b - 48) ≡ symbol_of b
unfolding symbol_of
symbol_digit b h = sym (pick_yes _ _ _ h)

pub below_power : (x y n : ℕ) → x ≤ y → n < 10 ^ x → n < 10 ^ y
below_power x y n l h = lt_of_lt_of_le h (pow-le-pow_right {n = 10} (omega arith) {i = x} {j = y} l)

-- a number that has room for one more digit
pub room : (b c n : ℕ) → b + c ≤ 17 → n < 10 ^ (b + c) → n < 100000000000000000
room b c n l h = below_power (b + c) 17 n l h

pub held_room : (m : Num) → Held m → m.n < 10 ^ 18
held_room m h = below_power (m.before + m.behind) 18 m.n (let a = h.before in let b = h.behind in omega arith) h.small
