-- `flatten::boxes::PathBox::merged` meets its contract. Assumes nothing.
use Rattle.std.proofs.Common.{sym, ◌∙◌}
use Rattle.drawing.specs.Sheet.{lower_of, higher_of}
use Rattle.flatten.specs.Boxes.{merged_of}
use Rattle.flatten.proofs.Bounds.{bound, boxed, is_lower, is_higher}
use Rattle.flatten.proofs.boxes.PathBox.merged.Goals as goal

pub returns-then-has_extent : goal.returns-then-has_extent
unfolding merged_of
returns-then-has_extent c =
    rw (sym c.has_extent.ensures ∙ c.if-has_extent.true)
    (boxed
    (bound lower_of c.min-x0.type_inv c.struct_told-1.given.0.1 c.struct_told-then-has_extent-1.given.0.1 (c.min-x0.ensures.value ∙ is_lower _ _))
    (bound lower_of c.min-y0.type_inv c.struct_told-then-has_extent-2-1.given.1.0.1 c.struct_told-then-has_extent-3-1.given.1.0.1 (c.min-y0.ensures.value ∙ is_lower _ _))
    (bound higher_of c.max-x1.type_inv c.struct_told-then-has_extent-4-1.given.1.1.0.1 c.struct_told-then-has_extent-5-1.given.1.1.0.1 (c.max-x1.ensures.value ∙ is_higher _ _))
    (bound higher_of c.max-y1.type_inv c.struct_told-then-has_extent-6-1.given.1.1.1.0.1 c.struct_told-then-has_extent-7-1.given.1.1.1.0.1 (c.max-y1.ensures.value ∙ is_higher _ _)))
