-- The words of coordinates as numbers: which are bad, and which are equal. Assumes nothing.
use Rattle.std.specs.Prelude.{ℕ, zero, suc, ◌+◌, ◌/◌, ◌%◌, ◌<◌, ◌≡◌, Bool, cond, ◌⊎◌, ◌↔◌, T, eqb, leb, ℤ, pos, Float}
use Rattle.std.proofs.Math.Path.{refl}
use Rattle.std.proofs.Common.{sym, ap, ◌∙◌, true≢false, inl, inr, arith, eq-eqb, ne_eqb}
use Rattle.std.proofs.Math.Bool.{true, false, not}
use Rattle.std.proofs.Math.Decide.{ℕ_discrete}
use Rattle.std.specs.Float.{nan, inf, fin}
use Rattle.std.specs.Float.Ieee.{binary32, fits, eq, is_nan, to_bits, of_bits, of_fields, odd}
use Rattle.std.specs.Float.Ieee.Bits.{to_bits-of_bits, of_bits-fits}
use Rattle.std.specs.Float.Ieee.Scale.{finite}
use Rattle.laws.specs.Same.{is_zero, Same}
use Rattle.laws.proofs.Same.{same→eq}
use Rattle.laws.specs.Own.{zero_exp, eq→same}
use Rattle.records.specs.Record.{is_bad, key}

field : (w : ℕ) → w % 2147483648 / 8388608 ≡ w / 8388608 % 256
field w = omega arith

odd_finite : (n : ℕ) (s : Bool) (m d g : ℕ) → finite (odd n s m d g) ≡ true
unfolding odd
odd_finite n s zero d g = refl
odd_finite n s (suc m) d g = refl

picked : (b c s : Bool) (x : Float) → finite x ≡ true → b ≡ not (finite (cond b (cond c (inf s) nan) x))
picked true true s x h = refl
picked true false s x h = refl
picked false c s x h = sym (ap not h)

fields : (s : Bool) (x t : ℕ) → eqb x 255 ≡ not (finite (of_fields binary32 s x t))
unfolding of_fields
fields s zero t = sym (ap not (odd_finite 24 s t 0 149))
fields s (suc x) t = picked (eqb (suc x) 255) (eqb t 0) s _ (odd_finite 24 s (8388608 + t) x 149)

-- a number is bad exactly where all bits of its exponent are set
pub bad_bits : (w : ℕ) → eqb (w / 8388608 % 256) 255 ≡ is_bad w
unfolding is_bad of_bits
bad_bits w = ap (λ (x : ℕ). eqb x 255) (sym (field w)) ∙ fields (leb 2147483648 w) (w % 2147483648 / 8388608) (w % 8388608)

-- ---- coordinates that are not bad are equal as numbers exactly where their keys are the same

keyed : (w : ℕ) → ((w ≡ 2147483648) × (key w ≡ 0)) ⊎ (key w ≡ w)
unfolding key
keyed w = elim (ℕ_discrete w 2147483648) [ yes e ↦ inl (e, simp (eq-eqb _ _ e)) | no ne ↦ inr (simp (ne_eqb _ _ ne)) ]

-- the two words of a zero
zero_word : (w : ℕ) → key w ≡ 0 → T (is_zero (of_bits binary32 w))
unfolding of_bits of_fields odd
zero_word w e = elim (keyed w) [ inl z ↦ rw z.0 tt | inr k ↦ rw (sym k ∙ e) tt ]

zero_key : (w : ℕ) (s : Bool) → w ≡ to_bits binary32 (fin s 0 (pos 0)) → key w ≡ 0
unfolding key to_bits
zero_key w true e = rw e refl
zero_key w false e = rw e refl

no_nan : (x : Float) → finite x ≡ true → T (not (is_nan x))
unfolding is_nan
no_nan nan h = absurd (true≢false (sym h))
no_nan (inf s) h = tt
no_nan (fin s m e) h = tt

module _ (w : ℕ) (h : w < 4294967296) (good : is_bad w ≡ false) where
  number : T (not (is_nan (of_bits binary32 w)))
  unfolding is_bad
  number = no_nan (of_bits binary32 w) (not_false (finite (of_bits binary32 w)) good)
    where
      not_false : (b : Bool) → not b ≡ false → b ≡ true
      not_false true e = refl
      not_false false e = absurd (true≢false e)

  word_back : to_bits binary32 (of_bits binary32 w) ≡ w
  word_back = to_bits-of_bits binary32 w h number

  zero_is : (x : Float) → of_bits binary32 w ≡ x → T (fits binary32 x) → T (is_zero x) → key w ≡ 0
  zero_is nan e f z = absurd z
  zero_is (inf s) e f z = absurd z
  zero_is (fin s zero d) e f z =
      zero_key w s (sym word_back ∙ ap (to_bits binary32) (e ∙ ap (λ (d : ℤ). fin s 0 d) (zero_exp binary32 s d f)))
  zero_is (fin s (suc m) d) e f z = absurd z

module _ (w v : ℕ) (h : w < 4294967296) (i : v < 4294967296) (good : is_bad w ≡ false) (well : is_bad v ≡ false) where
  keys_same : T (eq (of_bits binary32 w) (of_bits binary32 v)) → key w ≡ key v
  keys_same e = go (eq→same binary32 _ _ (of_bits-fits binary32 w) (of_bits-fits binary32 v) e)
    where
      go : Same (of_bits binary32 w) (of_bits binary32 v) → key w ≡ key v
      go (inl p) = ap key (sym (word_back w h good) ∙ ap (to_bits binary32) p ∙ word_back v i well)
      go (inr z) = zero_is w h good _ refl (of_bits-fits binary32 w) z.0 ∙ sym (zero_is v i well _ refl (of_bits-fits binary32 v) z.1)

  numbers_same : key w ≡ key v → T (eq (of_bits binary32 w) (of_bits binary32 v))
  numbers_same e = same→eq _ _ (number w h good) (go (keyed w) (keyed v))
    where
      go : ((w ≡ 2147483648) × (key w ≡ 0)) ⊎ (key w ≡ w) → ((v ≡ 2147483648) × (key v ≡ 0)) ⊎ (key v ≡ v) → Same (of_bits binary32 w) (of_bits binary32 v)
      go (inl a) b = inr (zero_word w a.1, zero_word v (sym e ∙ a.1))
      go (inr a) (inl b) = inr (zero_word w (e ∙ b.1), zero_word v b.1)
      go (inr a) (inr b) = inl (ap (of_bits binary32) (sym a ∙ e ∙ b))

  pub same_number_lem : T (eq (of_bits binary32 w) (of_bits binary32 v)) ↔ (key w ≡ key v)
  same_number_lem = (keys_same, numbers_same)
