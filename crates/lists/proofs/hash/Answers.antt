-- `lists::hash` meets its contract: the hash so far, carried on over the words left, is the hash of all. Assumes nothing.
use Rattle.std.proofs.Common.{refl, sym, ◌∙◌, arith, drop_of_length-le}
use Rattle.lists.specs.Lists.{hash_from, hash_of}
use Rattle.lists.proofs.Laws.{turn}
use Rattle.lists.proofs.hash.Goals as goal

pub loop-word-init : goal.loop-word-init
unfolding hash_of
loop-word-init c = refl

pub loop-word-preserved : goal.loop-word-preserved
loop-word-preserved c =
    let words = c.args.words.now in
    rw c.mixed-h.ensures (sym (turn words c.loop-word.h c.loop-word.word-index (omega arith)) ∙ c.loop-word.invariant)

pub returns : goal.returns
unfolding hash_from
returns c =
    let words = c.args.words.now in
    rw (drop_of_length-le words c.loop-word-test.false) at c.loop-word.invariant
