-- The two roots that are NaN below zero, `sqrt_of` and `two_thirds_of`, by the pattern of their argument: for any function f that is NaN below zero, and above it g of the magnitude. Assumes nothing.
use Rattle.std.proofs.Common.{◌≡◌, ℕ, zero, suc, ◌*◌, ◌%◌, ◌^◌, ◌<◌, ◌≤◌, Bool, true, false, T, ℤ, sym, refl, ap, ◌∙◌, subst, true≢false, arith, le-leb}
use native.Mathlib.Decide.{dec_lt}
use borrow.Author.Tests.{lt-leb}
use lib.Ieee.{Float, nan, inf, fin, binary32, of_bits, to_bits, fits, is_nan}
use Rattle.laws.specs.Compare.{under_zero}
use Rattle.roots.specs.Root.{mag, nearest_root, sqrt_of, two_thirds_of}
use Rattle.roots.specs.Rules.{sqrt_nan, sqrt_below_zero, sqrt_infinity, two_thirds_nan, two_thirds_below_zero, two_thirds_infinity}
use Rattle.roots.specs.Parts.{mag_bits}
use Rattle.roots.specs.Laws.{mag_is}
use Rattle.roots.proofs.Patterns.{Worth, worth, infinite, no_zero, mag_pos, is_number}
use Rattle.laws.specs.Nan.{nan_is}

pub record Upward (f : Float → Float) (g : ℕ → Float) : Type 0 where
  pub of_nan : f nan ≡ nan
  pub below_zero : (x : Float) → T (under_zero x) → f x ≡ nan
  pub infinity : f (inf false) ≡ inf false
  pub above : (m : ℕ) (e : ℤ) → f (fin false (suc m) e) ≡ g (mag (suc m) e)

sqrt_above : (m : ℕ) (e : ℤ) → sqrt_of (fin false (suc m) e) ≡ nearest_root false 2 (mag (suc m) e * 2 ^ 149)
unfolding sqrt_of
sqrt_above m e = refl

two_thirds_above : (m : ℕ) (e : ℤ) → two_thirds_of (fin false (suc m) e) ≡ nearest_root false 3 (mag (suc m) e * mag (suc m) e * 2 ^ 149)
unfolding two_thirds_of
two_thirds_above m e = refl

pub sqrt_is : Upward sqrt_of (λ a. nearest_root false 2 (a * 2 ^ 149))
sqrt_is = record { of_nan = sqrt_nan; below_zero = sqrt_below_zero; infinity = sqrt_infinity; above = sqrt_above }

pub two_thirds_is : Upward two_thirds_of (λ a. nearest_root false 3 (a * a * 2 ^ 149))
two_thirds_is = record { of_nan = two_thirds_nan; below_zero = two_thirds_below_zero; infinity = two_thirds_infinity; above = two_thirds_above }

pub nan_const : of_bits binary32 0x7fc0_0000 ≡ nan
unfolding of_bits
nan_const = refl

under : (x : Float) (a : ℕ) → 0 < a → Worth x true a → T (under_zero x)
under nan a A h = absurd h
under (inf s) a A h = absurd h
under (fin s zero e) a A h = absurd (no_zero e a A h.1)
under (fin true (suc m) e) a A h = tt
under (fin false (suc m) e) a A h = absurd (true≢false (sym h.0))

module _ (f : Float → Float) (g : ℕ → Float) (U : Upward f g) where
  pub keeps_nan : (x : Float) → is_nan x ≡ true → x ≡ f x
  keeps_nan x e = let z = nan_is x (subst T (sym e) tt) in z ∙ sym U.of_nan ∙ ap f (sym z)

  over : (x : Float) (a : ℕ) → 0 < a → Worth x false a → f x ≡ g a
  over nan a A h = absurd h
  over (inf s) a A h = absurd h
  over (fin s zero e) a A h = absurd (no_zero e a A h.1)
  over (fin true (suc m) e) a A h = absurd (true≢false h.0)
  over (fin false (suc m) e) a A h = U.above m e ∙ ap g (mag_is (suc m) e a h.1)

  module _ (x : Float) (F : T (fits binary32 x)) where
    abbrev b : ℕ
    b = to_bits binary32 x

    pub negative : is_nan x ≡ false → (b % 2 ^ 31 ≡ 0 → ⊥) → 2 ^ 31 ≤ b → f x ≡ nan
    negative N z h = U.below_zero x (elim (dec_lt (b % 2 ^ 31) 0x7f80_0000) [
      | yes l ↦ under x _ (mag_pos (b % 2 ^ 31) (omega arith)) (subst (λ (s : Bool). Worth x s (mag_bits (b % 2 ^ 31))) (le-leb (2 ^ 31) b h) (worth x F l))
      | no n ↦ subst (λ (v : Float). T (under_zero v)) (sym (infinite x F (is_number x N) (omega arith) ∙ ap inf (le-leb (2 ^ 31) b h))) tt
    ])

    pub positive : (b % 2 ^ 31 ≡ 0 → ⊥) → b < 2 ^ 31 → b % 2 ^ 31 < 0x7f80_0000 → f x ≡ g (mag_bits (b % 2 ^ 31))
    positive z h l = over x _ (mag_pos (b % 2 ^ 31) (omega arith)) (subst (λ (s : Bool). Worth x s (mag_bits (b % 2 ^ 31))) (lt-leb (2 ^ 31) b h) (worth x F l))

    pub infinity_stays : is_nan x ≡ false → b < 2 ^ 31 → 0x7f80_0000 ≤ b % 2 ^ 31 → x ≡ f x
    infinity_stays N h l = let z = infinite x F (is_number x N) l ∙ ap inf (lt-leb (2 ^ 31) b h) in z ∙ sym U.infinity ∙ ap f (sym z)
