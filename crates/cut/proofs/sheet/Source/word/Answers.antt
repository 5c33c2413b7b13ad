-- `cut::sheet::Source::word` meets its contract. Assumes nothing.
use Prim.Native.Nat.{◌-◌}
use mathlib.Core.Path.{sym, ◌∙◌}
use native.Mathlib.Omega.{arith}
use lib.ListN.{length}
use Rattle.cut.specs.Sheet.{six_of}
use Rattle.cut.specs.SheetLaws.{few_tags, word_of_tags, word_of_points, word_of_tail}
use Rattle.cut.proofs.sheet.Source.word.Goals as goal

pub tag_words-words-requires : goal.tag_words-words-requires
tag_words-words-requires c = few_tags _ _ c.requires.1

pub returns-then-k-words : goal.returns-then-k-words
returns-then-k-words c =
    let w = c.tag_words-words.ensures in
    c.tag_word.ensures ∙ sym (word_of_tags c.args.self.tags.now c.args.self.points.now (six_of c.args.self.six) c.args.k (omega (arith, w)))

pub returns-then-j-self : goal.returns-then-j-self
returns-then-j-self c =
    let w = c.tag_words-words.ensures in
    sym (word_of_points c.args.self.tags.now c.args.self.points.now (six_of c.args.self.six) c.args.k (c.args.k - c.tag_words-words.result) (omega (arith, w)) (omega arith))

pub returns : goal.returns
returns c =
    let w = c.tag_words-words.ensures in
    c.tail_word.ensures ∙ sym (word_of_tail c.args.self.tags.now c.args.self.points.now (six_of c.args.self.six) c.args.k (c.args.k - c.tag_words-words.result - length c.args.self.points.now) (omega (arith, w)))
