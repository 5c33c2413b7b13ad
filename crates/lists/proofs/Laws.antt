-- Laws of digits and of the hash. Assumes nothing.
use Prim.Native.Nat.{ℕ, zero, suc, ◌+◌, ◌*◌, ◌/◌, ◌^◌, ◌≤◌, ◌<◌}
use mathlib.Core.Path.{◌≡◌, refl, ◌∙◌}
use mathlib.Core.Bool.{Bool, true, false, cond}
use mathlib.Core.List.{List}
use native.Mathlib.Nat.{pow-suc, pow-le-pow_right}
use native.Mathlib.Numerals.{add-one}
use native.Mathlib.Omega.{arith}
use lib.Bits.{bit_xor}
use lib.Dec.{ltb}
use lib.ListN.{length, get_or, take, drop, length-take}
use lib.Seq.{drop-cons, drop-drop, get_or-drop, get_or-take}
use Rattle.std.specs.Simd.{first_chunks}
use borrow.Author.Tests.{lt-ltb, le-ltb}
use Rattle.lists.specs.Lists.{digit_of, digits_at, word_at, mixed_of, hash_from}

either : (t : Bool) {a b n : ℕ} → a < n → b < n → cond t a b < n
either true p q = p
either false p q = q

pub digit_below : (b : ℕ) → digit_of b < 16
unfolding digit_of
digit_below b = either (ltb b 97) (omega arith) (omega arith)

digits_below : (line : List ℕ) (at n : ℕ) → digits_at line at n < 16 ^ n
unfolding digits_at
digits_below line at zero = omega arith
digits_below line at (suc n) = omega (arith, digits_below line at n, digit_below (get_or line (at + n) 0), pow-suc 16 n)

-- before the eighth digit there is room for one more
pub room : (line : List ℕ) (at n : ℕ) → n < length (take 8 line) → digits_at line at n * 16 + 16 ≤ 2 ^ 32
room line at n h =
    let few : n ≤ 7 = omega (arith, length-take 8 line) in
    let most : 16 ^ n ≤ 16 ^ 7 = pow-le-pow_right (omega arith) few in
    omega (arith, digits_below line at n, most)

-- one digit more
pub next : (digits : List ℕ) (n : ℕ) → n < length (take 8 digits) → digits_at digits 0 n * 16 + digit_of (get_or (take 8 digits) n 0) ≡ digits_at digits 0 (n + 1)
unfolding digits_at
next digits n h =
    let e : 0 + n ≡ n = omega arith in
    rw (add-one n, e, get_or-take 8 digits n 0 (omega (arith, length-take 8 digits)))

-- ---- the pieces of a line, nine bytes each

piece_is : (line d : List ℕ) (m k : ℕ) → k < m → get_or (first_chunks 9 m line) k d ≡ take 9 (drop (k * 9) line)
piece_is line d zero k h = absurd (omega arith)
piece_is line d (suc m) zero h = refl
piece_is line d (suc m) (suc k) h =
    let e : 9 + k * 9 ≡ suc k * 9 = omega arith in
    piece_is (drop 9 line) d m k (omega arith) ∙ rw (drop-drop (k * 9) 9 line, e)

digits_are : (line : List ℕ) (at n : ℕ) → n ≤ 9 → digits_at (take 9 (drop at line)) 0 n ≡ digits_at line at n
unfolding digits_at
digits_are line at zero h = refl
digits_are line at (suc n) h =
    let e : 0 + n ≡ n = omega arith in
    rw (digits_are line at n (omega arith), e, get_or-take 9 (drop at line) n 0 (omega arith), get_or-drop at line n 0)

-- the number of the piece k is the word k
pub word_in : (line d : List ℕ) {piece : List ℕ} {pieces : List (List ℕ)} {k w : ℕ} → pieces ≡ first_chunks 9 (length line / 9) line → k < length line / 9
    → piece ≡ get_or pieces k d → w ≡ digits_at piece 0 8 → w ≡ word_at line k
unfolding word_at
word_in line d {piece} {pieces} {k} all h one e =
    e ∙ rw (one, all, piece_is line d (length line / 9) k h, digits_are line (k * 9) 8 (omega arith), lt-ltb _ _ h)

-- behind the last piece there is no word
pub no_word : (line : List ℕ) (k : ℕ) → length line / 9 ≤ k → 0 ≡ word_at line k
unfolding word_at
no_word line k h = rw (le-ltb k (length line / 9) h)

-- a turn of the hash takes one word
pub turn : (words : List ℕ) (h i : ℕ) → i < length words
    → hash_from h (drop i words) ≡ hash_from (mixed_of (bit_xor h (get_or words i 0))) (drop (i + 1) words)
unfolding hash_from
turn words h i p = rw (add-one i, drop-cons words i 0)
