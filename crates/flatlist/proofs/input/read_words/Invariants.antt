-- `flatlist::input::read_words` meets its contract: the words of the lines so far and those of what is left are the text's.
-- Assumes nothing.
use Rattle.flatlist.proofs.Reading.{So}
use Rattle.flatlist.proofs.input.read_words.Given as goal

abbrev pub invariant-loop-line : goal.invariant-loop-line
invariant-loop-line l = So l.text l.words l.count l.line-iterator.rest.now l.line-iterator.size
