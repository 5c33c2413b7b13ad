-- `sheets::sheet::to_i16` meets its contract. Assumes nothing.
use Prim.Native.Nat.{◌/◌}
use mathlib.Core.Path.{sym, ◌∙◌}
use native.Mathlib.Omega.{arith}
use lib.ListN.{length}
use Rattle.sheets.specs.Moving.{is_new}
use Rattle.sheets.proofs.Laws.{none_bad, first_bad}
use Rattle.sheets.proofs.Ways.{i16_wrong, i16_missing, sum_says}
use Rattle.sheets.proofs.sheet.to_i16.Goals as goal

pub returns-in-Some : goal.returns-in-Some
returns-in-Some c = i16_wrong c.args.tags.now c.args.points.now c.args.old_tags.now c.args.old_points.now _ (first_bad is_new c.args.tags.now _ (sym c.in-Some.is ∙ c.first_fixed.ensures))

pub narrow-requires : goal.narrow-requires
narrow-requires c =
    let k = sum_says c.args.tags.now (length c.args.points.now / 2) c.in-Some-total_in.n (sym c.in-Some-total_in.is ∙ c.total_in.ensures) in
    record { tags_value = none_bad is_new c.args.tags.now (sym c.in_default.is ∙ c.first_fixed.ensures); n_value = k.0; n_in_bounds = omega (arith, k.0, k.1) }

pub returns-in-None : goal.returns-in-None
returns-in-None c =
    i16_missing c.args.tags.now c.args.points.now c.args.old_tags.now c.args.old_points.now
    (none_bad is_new c.args.tags.now (sym c.in_default.is ∙ c.first_fixed.ensures))
    (sym c.in-None.is ∙ c.total_in.ensures)
