-- `numbers::words::half` meets its contract. Assumes nothing.
use Rattle.std.proofs.Common.{false, pos, ap, ◌∙◌, arith}
use lib.Ieee.{Float, fin, binary32, of_bits, mul}
use Rattle.numbers.proofs.Halves.{finite_half, top_half}
use Rattle.numbers.proofs.words.half.Goals as goal

pub returns-then-size-lt31744 : goal.returns-then-size-lt31744
unfolding of_bits
returns-then-size-lt31744 c =
    let w = c.args.w in
    ap (λ (v : Float). mul binary32 v (fin false 1 (pos 112))) c.float_of.ensures
    ∙ finite_half w (omega arith)

pub returns-else-size-lt31744 : goal.returns-else-size-lt31744
returns-else-size-lt31744 c =
    let w = c.args.w in
    rw (c.float_of-else-size-lt31744.ensures) (top_half w (omega arith))
