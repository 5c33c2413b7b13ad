-- `roots::cube::two_thirds_bits` meets its contract, by the laws of `Cubes`. Assumes nothing.
use Rattle.std.proofs.Common.{ℕ, ◌^◌, ◌<◌, sym, subst, arith}
use Rattle.roots.proofs.Cubes.{factor_le, square_least, square_most, two_thirds_is}
use Rattle.roots.proofs.cube.two_thirds_bits.Goals as goal

pub square_times-t-requires : goal.square_times-t-requires
square_times-t-requires c =
    let u = c.unpack-p.ensures in
    (u.most, factor_le _ _ _ _ _ _ u c.long_square-g.ensures.0 c.long_square-g.ensures.1 c.third-d.ensures c.power.ensures)

pub settled-requires : goal.settled-requires
settled-requires c =
    let u = c.unpack-p.ensures in
    let g = c.long_square-g.ensures in
    let d = c.third-d.ensures in
    let w = c.power.ensures in
    let t = c.square_times-t.ensures in
    (c.two_thirds_guess.ensures.0, c.two_thirds_guess.ensures.1, omega (arith, t, square_least _ _ _ _ _ _ u g.0 g.1 d w), subst (λ (x : ℕ). x < 2 ^ 50) (sym t) (square_most _ _ _ _ _ _ u g.0 g.1 d w))

pub returns : goal.returns
returns c =
    two_thirds_is _ _ _ _ _ _
    c.unpack-p.ensures
    c.long_square-g.ensures.0
    c.long_square-g.ensures.1
    c.third-d.ensures
    c.power.ensures
    _ _
    c.square_times-t.ensures
    c.settled.ensures
