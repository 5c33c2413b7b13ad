-- `numbers::whole::span` meets its contract. Assumes nothing.
use Rattle.std.proofs.Common.{sym, ap, ◌∙◌}
use lib.Ieee.{of_bits, neg}
use Rattle.numbers.specs.Words.{signed}
use Rattle.numbers.specs.Whole.{span_of}
use Rattle.numbers.proofs.Bits.{yes, positive}
use Rattle.numbers.proofs.Spans.{minus, negated}
use Rattle.numbers.proofs.whole.span.Goals as goal

pub between-requires : goal.between-requires
unfolding of_bits
between-requires c = record { unsigned = positive c.args.x (yes c.if-x.true); small = yes c.if-x-2.true }

pub returns-then-x-2 : goal.returns-then-x-2
unfolding signed
returns-then-x-2 c = c.between.ensures

pub between-requires-then-x-4 : goal.between-requires-then-x-4
unfolding of_bits neg
between-requires-then-x-4 c = let m = minus c.args.x (yes c.if-x-3.true) (yes c.if-x-4.true) in record { unsigned = m.0; small = m.1 }

pub returns-then-x-4 : goal.returns-then-x-4
returns-then-x-4 c = c.between-then-x-4.ensures ∙ ap span_of (sym (negated c.args.x))
