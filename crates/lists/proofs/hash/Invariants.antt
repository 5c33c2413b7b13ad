-- `lists::hash` meets its contract: the hash so far, carried on over the words left, is the hash of all. Assumes nothing.
use mathlib.Core.Path.{◌≡◌}
use lib.ListN.{drop}
use Rattle.lists.specs.Lists.{hash_from, hash_of}
use Rattle.lists.proofs.hash.Given as goal

abbrev pub invariant-loop-word : goal.invariant-loop-word
invariant-loop-word l = hash_from l.h (drop l.word-index l.words) ≡ hash_of l.words
