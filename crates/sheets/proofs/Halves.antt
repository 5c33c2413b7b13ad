-- The candidate for a coordinate's 16 bits is right where it goes back. Assumes nothing.
use Prim.Native.Nat.{ℕ, zero, suc, ◌-◌, ◌^◌, ◌<◌, ◌≤◌}
use mathlib.Core.Path.{◌≡◌, refl, sym, ap, ◌∙◌}
use mathlib.Core.Bool.{Bool, true, false, cond}
use native.Mathlib.Omega.{arith}
use lib.Dec.{ltb, eqb, le→leb}
use lib.IntN.{pos}
use lib.Ieee.{Float, binary32, of_bits, to_bits, of_int, neg, to_unsigned, in_float}
use lib.Ieee.Exact.{HasValue}
use lib.Ieee.Back.{round_whole, unsigned_back}
use borrow.Author.Tests.{le-ltb, ltb-true, ltb-false, eq-eqb, ne_eqb}
use Rattle.maths.specs.Numbers.{sign_of, abs_of, plus_size}
use Rattle.scene.specs.Reading.{i16_of}
use Rattle.sheets.specs.Moving.{goes_back, half_word}
use Rattle.sheets.specs.Written.{bits_of}
use Rattle.sheets.specs.Back.{half_back, goes_back_is, word_again}

value : (n : ℕ) → n ≤ 2 ^ 24 → HasValue (of_int binary32 (pos n)) false n 1
unfolding of_int
value n h = round_whole binary32 false n h

back : (n : ℕ) → n ≤ 2 ^ 24 → to_unsigned 32 (of_int binary32 (pos n)) ≡ n
unfolding in_float
back n h = (unsigned_back binary32 32 n (le→leb n (2 ^ 24) h) (omega arith)).1

abbrev candidate : Float → ℕ
candidate x = bits_of (sign_of x) (to_unsigned 32 (abs_of x))

bits_plus : (h : ℕ) → h < 0x8000 → bits_of false h ≡ h
unfolding bits_of
bits_plus zero l = refl
bits_plus (suc h) l =
    let a : suc h ≤ 0x8000 = omega arith in
    rw (le-ltb _ _ a, ne_eqb (suc h) 0 (λ e. omega arith))

bits_minus : (h : ℕ) → 0x8000 ≤ h → h < 0x10000 → bits_of true (0x10000 - h) ≡ h
unfolding bits_of
bits_minus h g l =
    let a : 0x10000 - h ≤ 0x8000 = omega arith in
    let b : 0x10000 - (0x10000 - h) ≡ h = omega arith in
    rw (le-ltb _ _ a, ne_eqb (0x10000 - h) 0 (λ e. omega arith), b)

candidate_half : (h : ℕ) → h < 0x10000 → candidate (i16_of h) ≡ h
unfolding i16_of
candidate_half h l = go (ltb h 0x8000) refl
  where
    go : (t : Bool) → ltb h 0x8000 ≡ t → candidate (cond t (of_int binary32 (pos h)) (neg (of_int binary32 (pos (0x10000 - h))))) ≡ h
    go true e =
        let small : h < 0x8000 = ltb-true _ _ e in
        let fine : h ≤ 2 ^ 24 = omega arith in
        let s = plus_size (of_int binary32 (pos h)) h 1 (value h fine) in
        rw (s.0, s.1, back h fine) (bits_plus h small)
    go false e =
        let large : 0x8000 ≤ h = ltb-false _ _ e in
        let fine : 0x10000 - h ≤ 2 ^ 24 = omega arith in
        let s = plus_size (of_int binary32 (pos (0x10000 - h))) (0x10000 - h) 1 (value (0x10000 - h) fine) in
        rw (s.2, s.3, back (0x10000 - h) fine) (bits_minus h large l)

pub candidate_is : (w : ℕ) → goes_back w ≡ true → bits_of (sign_of (of_bits binary32 w)) (to_unsigned 32 (abs_of (of_bits binary32 w))) ≡ half_word w
candidate_is w e =
    let k = goes_back_is w e in
    ap (λ (x : Float). bits_of (sign_of x) (to_unsigned 32 (abs_of x))) (sym k.1) ∙ candidate_half (half_word w) k.0

-- the word is that of its candidate exactly where it goes back
test_by : (w h : ℕ) → w < 2 ^ 32 → h < 0x10000 → (t : Bool) → goes_back w ≡ t → (goes_back w ≡ true → h ≡ half_word w) → eqb (to_bits binary32 (i16_of h)) w ≡ t
test_by w h l k true g f = eq-eqb _ _ (ap (λ (x : ℕ). to_bits binary32 (i16_of x)) (f g) ∙ word_again w l g)
test_by w h l k false g f =
    ne_eqb _ _ (λ e. let yes : goes_back w ≡ true = ap goes_back (sym e) ∙ (half_back h k).0 in let z : ◌≡◌ {A = ℕ} 0 1 = cc in omega arith)

pub test_is : (w h : ℕ) → w < 2 ^ 32 → h < 0x10000 → (goes_back w ≡ true → h ≡ half_word w) → eqb (to_bits binary32 (i16_of h)) w ≡ goes_back w
test_is w h l k f = test_by w h l k (goes_back w) refl f

pub candidate_by : {x y : Float} {s : Bool} {m r : ℕ} (w : ℕ) → x ≡ of_bits binary32 w → s ≡ sign_of x → y ≡ abs_of x → m ≡ to_unsigned 32 y → r ≡ bits_of s m → goes_back w ≡ true → r ≡ half_word w
candidate_by w a b c d e g = e ∙ rw (d, c, b, a) (candidate_is w g)

pub test_of : {h t : ℕ} {x : Float} (w : ℕ) → w < 2 ^ 32 → h < 0x10000 → (goes_back w ≡ true → h ≡ half_word w) → x ≡ i16_of h → t ≡ to_bits binary32 x → eqb t w ≡ goes_back w
test_of {h = h} w l k f a b = rw (b, a) (test_is w h l k f)
