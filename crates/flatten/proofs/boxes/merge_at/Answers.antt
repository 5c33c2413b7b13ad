-- `flatten::boxes::merge_at` meets its contract: one box is changed; past the list's end nothing is. Assumes nothing.
use Rattle.std.proofs.Common.{sym, ap, ◌∙◌, set}
use Rattle.std.proofs.lemmas.List.{get_or_default, set_past}
use Rattle.flatten.specs.declared.boxes.PathBox.{PathBox}
use Rattle.flatten.specs.Boxes.{fresh_box, changed_of, changed_at}
use Rattle.flatten.proofs.boxes.merge_at.Goals as goal

pub returns-then-at-boxes : goal.returns-then-at-boxes
unfolding changed_at
returns-then-at-boxes c =
    ap (set c.args.boxes.now c.args.at)
    (c.changed.ensures ∙ ap (λ (p : PathBox). changed_of p c.args.change) (get_or_default c.args.boxes.now c.args.at _ fresh_box c.if-at-boxes.true))

pub returns-else-at-boxes : goal.returns-else-at-boxes
unfolding changed_at
returns-else-at-boxes c = sym (set_past c.args.boxes.now c.args.at _ c.if-at-boxes.false)
