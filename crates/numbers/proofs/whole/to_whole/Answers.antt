-- `numbers::whole::to_whole` meets its contract. Assumes nothing.
use Rattle.std.proofs.Common.{Bool, not, T, sym, ap, ◌∙◌, subst}
use lib.Ieee.{Float, of_bits, lt}
use Rattle.numbers.specs.Words.{sign_of, signed}
use Rattle.numbers.specs.WordsLaws.{abs_clear}
use Rattle.numbers.specs.Whole.{whole_of}
use Rattle.numbers.proofs.Bits.{yes, no}
use Rattle.numbers.proofs.Wholes.{limit, with_sign, kept}
use Rattle.numbers.proofs.whole.to_whole.Goals as goal

pub near-requires : goal.near-requires
unfolding of_bits
near-requires c = record { unsigned = subst (λ (v : Float). T (not (sign_of v))) (sym c.abs-a.ensures) (abs_clear c.args.x); small = yes c.if-a.true }

pub returns-then-a : goal.returns-then-a
returns-then-a c =
    let x = c.args.x in
    let u = c.args.away in
    c.turned.ensures
    ∙ ap (λ (s : Bool). signed s c.near.result) c.is_negative.ensures
    ∙ ap (signed (sign_of x)) (c.near.ensures ∙ ap (whole_of u) c.abs-a.ensures)
    ∙ with_sign u x

pub returns-else-a : goal.returns-else-a
unfolding of_bits
returns-else-a c =
    let x = c.args.x in
    kept c.args.away x (subst T (sym c.well_formed.1.0.1) tt) (subst (λ (v : Float). T (not (lt v limit))) c.abs-a.ensures (no c.if-a.false))
