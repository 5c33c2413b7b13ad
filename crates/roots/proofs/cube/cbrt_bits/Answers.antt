-- `roots::cube::cbrt_bits` meets its contract, by the laws of `Cubes`. Assumes nothing.
use Rattle.std.proofs.Common.{ℕ, ◌+◌, ◌*◌, ◌^◌, subst, mul_assoc, arith}
use Rattle.roots.specs.Parts.{root_bits, mag_bits}
use Rattle.roots.proofs.Cubes.{third_least, third_most, cbrt_is}
use Rattle.roots.proofs.cube.cbrt_bits.Goals as goal

pub settled-requires : goal.settled-requires
settled-requires c =
    let u = c.unpack-p.ensures in
    let d = c.third-d.ensures in
    let w = c.power.ensures in
    (c.cbrt_guess.ensures.0, c.cbrt_guess.ensures.1, omega (arith, third_least _ _ _ _ _ u d w), third_most _ _ _ _ _ u d w)

pub returns : goal.returns
returns c =
    let u = c.unpack-p.ensures in
    let b = c.args.b in
    let r = c.third-d.result * 8388608 + c.settled.result in
    subst (λ (x : ℕ). root_bits 3 x r) (mul_assoc (mag_bits b) (2 ^ 149) (2 ^ 149)) (cbrt_is _ _ _ _ _ u c.third-d.ensures c.power.ensures _ c.settled.ensures)
