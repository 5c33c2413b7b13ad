-- What single floats and words say of NaN and of the sign. Assumes nothing.
use Rattle.std.proofs.Common.{◌≡◌, ℕ, zero, suc, ◌+◌, ◌*◌, Bool, true, false, not, T, ℤ, pos, sym, refl, ap, ◌∙◌, subst, le_of_eq, lt_of_le_of_lt, zero-lt-suc, mul-pos, one-mul, zero-add, zero-mul, mul-one, lt→ltb, T_not}
use lib.Ieee.{Float, nan, inf, fin, binary32, up, down, odd, units, round, fits, is_nan, ne, neg, sum, add, sub, lt}
use lib.Ieee.Fits.{up_pos, down_pos, neg-fits}
use Rattle.laws.specs.Dyadic.{add_value}
use Rattle.laws.specs.Own.{zero_exp, round_own}
use Rattle.std.specs.Float.{is_sign_negative}
use Rattle.numbers.specs.Words.{sign_of, signed, abs_of}
use Rattle.laws.specs.Nan.{nan_is}
use Rattle.numbers.specs.WordsLaws.{nan_test}

-- ---- a test's outcome as a fact
pub yes : {b : Bool} → b ≡ true → T b
yes p = rw p tt

pub no : {b : Bool} → b ≡ false → T (not b)
no p = rw p tt

-- ---- a float compared with itself
pub is_nan_lem : (x : Float) → ne x x ≡ true → x ≡ nan
is_nan_lem x h = nan_is x (yes (sym (nan_test x) ∙ h))

-- ---- the sign bit
pub nan_sign : sign_of nan ≡ false
unfolding sign_of
nan_sign = refl

pub sign_is : (x : Float) → is_sign_negative x ≡ sign_of x
unfolding sign_of is_sign_negative
sign_is nan = refl
sign_is (inf s) = refl
sign_is (fin s m e) = refl

pub nan_clear : (x : Float) → is_nan x ≡ true → sign_of x ≡ false
nan_clear x h = rw (nan_is x (yes h)) nan_sign

-- ---- above 0, and not
abbrev pub zeroed : Float
zeroed = fin false 0 (pos 0)

pub positive : (x : Float) → T (lt zeroed x) → T (not (sign_of x))
unfolding sign_of lt
positive nan h = absurd h
positive (inf true) h = absurd h
positive (inf false) h = tt
positive (fin true m e) h = absurd h
positive (fin false m e) h = tt

inf_above : T (lt zeroed (inf false))
unfolding lt
inf_above = tt

fin_above : (m : ℕ) (e : ℤ) → T (lt zeroed (fin false (suc m) e))
unfolding lt
fin_above m e = lt→ltb (0 * down e) (suc m * up e * 1) (lt_of_le_of_lt (le_of_eq (zero-mul (down e))) (mul-pos (mul-pos (zero-lt-suc m) (up_pos e)) (zero-lt-suc 0)))

-- ---- the size: x, or 0 - x
pub size_above : (x : Float) → T (lt zeroed x) → x ≡ abs_of x
unfolding abs_of signed sign_of lt
size_above nan h = absurd h
size_above (inf true) h = absurd h
size_above (inf false) h = refl
size_above (fin true m e) h = absurd h
size_above (fin false m e) h = refl

zero_plus : (m : ℕ) (e : ℤ) → T (fits binary32 (fin false m e)) → add binary32 zeroed (fin false m e) ≡ fin false m e
zero_plus m e F =
    let a = m * up e in
    let d = down e in
    add_value binary32 zeroed (fin false m e) false 0 1 a d (zero-lt-suc 0) (down_pos e) (refl, refl) (refl, refl)
    ∙ ap (λ (z : ℕ). round binary32 false z (1 * d)) (ap (λ (z : ℕ). z + a * 1) (zero-mul d) ∙ zero-add (a * 1) ∙ mul-one a)
    ∙ ap (λ (z : ℕ). round binary32 false a z) (one-mul d)
    ∙ round_own binary32 false m e F

minus_zero_lem : sub binary32 zeroed zeroed ≡ zeroed
unfolding sub add neg sum round units odd
minus_zero_lem = refl

pub size_below : (x : Float) → T (fits binary32 x) → T (not (lt zeroed x)) → sub binary32 zeroed x ≡ abs_of x
unfolding abs_of signed sign_of neg sub add
size_below nan F h = refl
size_below (inf true) F h = refl
size_below (inf false) F h = absurd (T_not (lt zeroed (inf false)) h inf_above)
size_below (fin true m e) F h = zero_plus m e (neg-fits binary32 (fin true m e) F)
size_below (fin false zero e) F h = subst (λ (d : ℤ). sub binary32 zeroed (fin false 0 d) ≡ fin false 0 d) (sym (zero_exp binary32 false e F)) minus_zero_lem
size_below (fin false (suc m) e) F h = absurd (T_not (lt zeroed (fin false (suc m) e)) h (fin_above m e))
