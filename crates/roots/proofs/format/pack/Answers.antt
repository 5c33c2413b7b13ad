-- `roots::format::pack` meets its contract. Assumes nothing.
use Rattle.std.proofs.Common.{◌∙◌}
use Rattle.roots.proofs.Packing.{packed_is}
use Rattle.roots.proofs.format.pack.Goals as goal

pub returns : goal.returns
returns c = c.min.ensures ∙ packed_is c.args.s.r c.args.s.e c.args.c _ _ c.requires.0 c.spare-i.ensures.0 c.spare-i.ensures.1 c.to_nearest-n.ensures.0
