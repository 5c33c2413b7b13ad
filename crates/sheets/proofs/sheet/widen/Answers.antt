-- `sheets::sheet::widen` meets its contract. Assumes nothing.
use native.Mathlib.Omega.{arith}
use Rattle.sheets.proofs.Ways.{f32_no_tags, f32_no_points, f32_done}
use Rattle.sheets.proofs.sheet.widen.Goals as goal

pub returns-then-new_tags-tags : goal.returns-then-new_tags-tags
returns-then-new_tags-tags c = f32_no_tags c.args.tags.now c.args.points.now c.args.new_tags.now c.args.new_points.now c.requires.tags_value c.args.n c.requires.n_value c.requires.n_in_bounds (omega arith)

pub returns-then-new_points-m : goal.returns-then-new_points-m
returns-then-new_points-m c = f32_no_points c.args.tags.now c.args.points.now c.args.new_tags.now c.args.new_points.now c.requires.tags_value c.args.n c.requires.n_value c.requires.n_in_bounds (omega arith) (omega arith)

pub returns : goal.returns
returns c = f32_done c.args.tags.now c.args.points.now c.args.new_tags.now c.args.new_points.now c.requires.tags_value c.args.n c.requires.n_value c.requires.n_in_bounds (omega arith) (omega arith) c.write_tags.ensures c.write_new.ensures
