-- `lists::word` meets its contract. Assumes nothing.
use mathlib.Core.List.{[]}
use native.Mathlib.Omega.{arith}
use Rattle.lists.proofs.Laws.{word_in, no_word}
use Rattle.lists.proofs.word.Goals as goal

pub returns-in-Some : goal.returns-in-Some
returns-in-Some c =
    let found = c.in-Some.ensures.lookup.3 in
    word_in _ [] c.as_chunks.ensures.front (omega (arith, found.0, c.as_chunks.ensures.front_len)) (found.1 []) c.number.ensures

pub returns-in-None : goal.returns-in-None
returns-in-None c = no_word _ _ (omega (arith, c.in-None.ensures.lookup.3, c.as_chunks.ensures.front_len))
