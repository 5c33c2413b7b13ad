-- No second answer satisfies the contract of a public function, nor second contents of what was lent. Assumes nothing.
use Rattle.std.specs.Prelude.{ℕ, ◌≡◌, List, Float, length, replicate, from_bits}
use Rattle.std.specs.Float.{binary32}
use Rattle.laws.specs.Only.{Only, determined}
use Rattle.lists.specs.Lists.{word_at, hash_of}

pub word_only : (line : List ℕ) (k : ℕ) → Only (λ r. r ≡ word_at line k)
word_only line k = determined (word_at line k)

pub float_only : (line : List ℕ) (k : ℕ) → Only (λ (r : Float). r ≡ from_bits binary32 (word_at line k))
float_only line k = determined (from_bits binary32 (word_at line k))

pub fill_only : (words : List ℕ) (word : ℕ) → Only (λ filled. filled ≡ replicate (length words) word)
fill_only words word = determined (replicate (length words) word)

pub hash_only : (words : List ℕ) → Only (λ r. r ≡ hash_of words)
hash_only words = determined (hash_of words)
