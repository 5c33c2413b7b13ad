-- `numbers::whole::near` meets its contract. Assumes nothing.
use Rattle.std.proofs.Common.{Bool, sym, ap, ◌∙◌}
use lib.Ieee.{of_bits}
use Rattle.numbers.specs.Whole.{whole_of}
use Rattle.numbers.proofs.Bits.{yes, no}
use Rattle.numbers.proofs.Wholes.{raised, high_enough, lowered, low_enough}
use Rattle.numbers.proofs.whole.near.Goals as goal

pub returns-then-n-a : goal.returns-then-n-a
unfolding of_bits
returns-then-n-a c =
    let a = c.args.a in
    raised a c.requires.unsigned c.requires.small (yes c.if-n-a.true) ∙ ap (λ (u : Bool). whole_of u a) (sym c.if-up.true)

pub returns-else-n-a : goal.returns-else-n-a
unfolding of_bits
returns-else-n-a c =
    let a = c.args.a in
    high_enough a c.requires.unsigned c.requires.small (no c.if-n-a.false) ∙ ap (λ (u : Bool). whole_of u a) (sym c.if-up.true)

pub returns-then-a-n : goal.returns-then-a-n
unfolding of_bits
returns-then-a-n c =
    let a = c.args.a in
    lowered a c.requires.unsigned c.requires.small (yes c.if-a-n.true) ∙ ap (λ (u : Bool). whole_of u a) (sym c.if-up.false)

pub returns-else-a-n : goal.returns-else-a-n
unfolding of_bits
returns-else-a-n c =
    let a = c.args.a in
    low_enough a c.requires.unsigned c.requires.small (no c.if-a-n.false) ∙ ap (λ (u : Bool). whole_of u a) (sym c.if-up.false)
