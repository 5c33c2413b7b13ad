-- `svg::decimal::lift` meets its contract. Assumes nothing.
use lib.Count.{count_leading_zeros, leading_top}
use Rattle.svg.proofs.Lifting.{lifted}
use Rattle.svg.proofs.decimal.lift.Goals as goal

pub returns : goal.returns
returns c =
    let n = c.args.n in
    let top = leading_top 64 n c.requires c.ranges.n.fits in
    lifted n (count_leading_zeros 64 n) top.0 top.1 top.2 top.3
