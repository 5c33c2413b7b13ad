-- `flatlist::input::word_of` meets its contract: so far the word is the number of the digits passed. Assumes nothing.
use Rattle.flatlist.proofs.Reading.{Reads}
use Rattle.flatlist.proofs.input.word_of.Given as goal

abbrev pub invariant-loop-b : goal.invariant-loop-b
invariant-loop-b l = Reads l.line l.word l.b-index
