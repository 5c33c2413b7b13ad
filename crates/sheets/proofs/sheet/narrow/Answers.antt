-- `sheets::sheet::narrow` meets its contract. Assumes nothing.
use mathlib.Core.Path.{sym, ◌∙◌}
use native.Mathlib.Omega.{arith}
use Rattle.sheets.specs.Moving.{goes_back}
use Rattle.sheets.proofs.Laws.{none_bad, first_bad}
use Rattle.sheets.proofs.Ways.{i16_not_whole, i16_no_tags, i16_no_points, i16_done}
use Rattle.sheets.proofs.sheet.narrow.Goals as goal

pub returns-in-Some : goal.returns-in-Some
returns-in-Some c =
    let a = c.args in
    i16_not_whole a.tags.now a.points.now a.old_tags.now a.old_points.now c.requires.tags_value a.n c.requires.n_value c.requires.n_in_bounds _ (first_bad goes_back _ _ (sym c.in-Some.is ∙ c.first_lost.ensures))

pub returns-then-old_tags-tags : goal.returns-then-old_tags-tags
returns-then-old_tags-tags c =
    let a = c.args in
    i16_no_tags a.tags.now a.points.now a.old_tags.now a.old_points.now c.requires.tags_value a.n c.requires.n_value c.requires.n_in_bounds (none_bad goes_back _ (sym c.in_default.is ∙ c.first_lost.ensures)) (omega arith)

pub returns-then-old_points-m : goal.returns-then-old_points-m
returns-then-old_points-m c =
    let a = c.args in
    i16_no_points a.tags.now a.points.now a.old_tags.now a.old_points.now c.requires.tags_value a.n c.requires.n_value c.requires.n_in_bounds (none_bad goes_back _ (sym c.in_default.is ∙ c.first_lost.ensures)) (omega arith) (omega arith)

pub write_old-requires : goal.write_old-requires
write_old-requires c = record { n_in_bounds = c.requires.n_in_bounds; points_value = none_bad goes_back _ (sym c.in_default.is ∙ c.first_lost.ensures); n_in_bounds_2 = omega arith }

pub returns : goal.returns
returns c =
    let a = c.args in
    i16_done a.tags.now a.points.now a.old_tags.now a.old_points.now c.requires.tags_value a.n c.requires.n_value c.requires.n_in_bounds (none_bad goes_back _ (sym c.in_default.is ∙ c.first_lost.ensures)) (omega arith) (omega arith)
    c.write_tags.ensures c.write_old.ensures
