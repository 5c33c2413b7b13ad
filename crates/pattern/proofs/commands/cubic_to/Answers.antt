-- `pattern::commands::cubic_to` meets its contract. Assumes nothing.
use mathlib.Core.Path.{◌∙◌}
use Rattle.pattern.specs.Commands.{words_of, cubic, spots, target, tag_of}
use Rattle.pattern.specs.Drawn.{drawn_is}
use Rattle.pattern.proofs.commands.cubic_to.Goals as goal

pub returns : goal.returns
unfolding words_of spots target tag_of
returns c =
    let a = c.args in
    c.segment.ensures ∙ drawn_is a.pen (cubic a.from a.by a.to) a.tags.now a.points.now
