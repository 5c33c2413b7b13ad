-- `roots::square::sqrt_digits` meets its contract, by the laws of `Squares`. Assumes nothing.
use Rattle.std.proofs.Common.{◌*◌, ◌^◌, sym, subst}
use Rattle.roots.specs.Parts.{root_bits, mag_bits}
use Rattle.roots.proofs.Squares.{right}
use Rattle.roots.proofs.square.sqrt_digits.Goals as goal

pub returns : goal.returns
returns c = subst (root_bits 2 (mag_bits c.args.b * 2 ^ 149)) (sym c.pack.ensures) (right _ _ _ c.unpack-p.ensures _ _ c.feed2-s.ensures)
