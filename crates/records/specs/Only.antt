-- No second answer satisfies the contract of a public function. Assumes nothing.
use Rattle.std.specs.Prelude.{ℕ, ◌≡◌, Bool, List}
use Rattle.laws.specs.Only.{Only, determined}
use Rattle.records.specs.Record.{word, line_at, keys_at, is_bad, bad_at, key, once, is_point, counts_of}

pub is_bad_only : (w : ℕ) → Only (λ r. r ≡ is_bad w)
is_bad_only w = determined (is_bad w)

pub key_of_only : (w : ℕ) → Only (λ r. r ≡ key w)
key_of_only w = determined (key w)

pub is_point_only : (path x y q a b : ℕ) → Only (λ r. r ≡ is_point path x y q a b)
is_point_only path x y q a b = determined (is_point path x y q a b)

pub one_only : (b : Bool) → Only (λ r. r ≡ once b)
one_only b = determined (once b)

pub word_at_only : (ws : List ℕ) (k i : ℕ) → Only (λ r. r ≡ word ws k i)
word_at_only ws k i = determined (word ws k i)

pub key_at_only : (ws : List ℕ) (k i : ℕ) → Only (λ r. r ≡ key (word ws k i))
key_at_only ws k i = determined (key (word ws k i))

pub line_at_only : (ws : List ℕ) (k : ℕ) → Only (λ r. r ≡ line_at ws k)
line_at_only ws k = determined (line_at ws k)

pub keys_at_only : (ws : List ℕ) (k : ℕ) → Only (λ r. r ≡ keys_at ws k)
keys_at_only ws k = determined (keys_at ws k)

pub bad_at_only : (ws : List ℕ) (k : ℕ) → Only (λ r. r ≡ bad_at ws k)
bad_at_only ws k = determined (bad_at ws k)

pub count_both_only : (ws : List ℕ) (path x y z w : ℕ) → Only (λ r. r ≡ counts_of ws path x y z w)
count_both_only ws path x y z w = determined (counts_of ws path x y z w)
