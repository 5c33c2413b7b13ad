-- What the words of a line are, and the hash of words. Definitions only.
use Rattle.std.specs.Prelude.{ℕ, zero, suc, ◌+◌, ◌*◌, ◌/◌, ◌%◌, ◌^◌, cond, List, [], ◌∷◌, ltb, length, get_or}
use Rattle.std.specs.Int.Bits.{bit_xor}

-- ---- a word of a line

-- the hex digit of a byte: below the letter a its low four bits, else 9 more, modulo 16
unfoldable pub digit_of : ℕ → ℕ
digit_of b = cond (ltb b 97) (b % 16) ((b % 16 + 9) % 16)

-- the number of the n digits from a place on
unfoldable pub digits_at : List ℕ → ℕ → ℕ → ℕ
digits_at line at zero = 0
digits_at line at (suc n) = digits_at line at n * 16 + digit_of (get_or line (at + n) 0)

-- a word is eight digits and one byte behind them; 0 behind the last
unfoldable pub word_at : List ℕ → ℕ → ℕ
word_at line k = cond (ltb k (length line / 9)) (digits_at line (k * 9) 8) 0

-- ---- the hash: FNV-1a, 32 bits, taken a word at a time

unfoldable pub mixed_of : ℕ → ℕ
mixed_of h = h * 16777619 % 2 ^ 32

unfoldable pub hash_from : ℕ → List ℕ → ℕ
hash_from h [] = h
hash_from h (w ∷ ws) = hash_from (mixed_of (bit_xor h w)) ws

unfoldable pub hash_of : List ℕ → ℕ
hash_of ws = hash_from 0x811c9dc5 ws
