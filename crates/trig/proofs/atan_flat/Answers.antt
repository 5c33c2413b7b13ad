-- `trig::atan_flat` meets its contract. Assumes nothing.
use mathlib.Core.Path.{sym, subst}
use lib.Dec.{T}
use lib.Ieee.{of_bits}
use Rattle.trig.specs.Flat.{flat}
use Rattle.trig.proofs.atan_flat.Goals as goal

pub returns-then-t-2 : goal.returns-then-t-2
unfolding of_bits
returns-then-t-2 c = sym (flat c.args.t (subst T (sym c.well_formed.0.1) tt) (subst T (sym c.if-t.true) tt) (subst T (sym c.if-t-2.true) tt))
