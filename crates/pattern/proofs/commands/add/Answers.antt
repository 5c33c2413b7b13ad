-- `pattern::commands::add` meets its contract. Assumes nothing.
use mathlib.Core.Path.{sym, ap, ◌∙◌}
use mathlib.Core.Bool.{◌&&◌}
use mathlib.Core.List.{◌++◌}
use lib.Dec.{leb}
use Rattle.std.specs.Prelude.{ℕ, ◌+◌, ◌*◌, length}
use Rattle.pattern.specs.Commands.{words_of}
use Rattle.pattern.specs.Drawn.{verdict_of}
use Rattle.pattern.proofs.Laws.{whole_length, granted, passed_on, no_verdict, added}
use Rattle.pattern.proofs.commands.add.Goals as goal

pub returns-in_err-verdict : goal.returns-in_err-verdict
returns-in_err-verdict c =
    let a = c.args in
    let n = whole_length a.start.now a.spots.now in
    rw (passed_on _ _ c.from_residual.ensures.1)
    (no_verdict a.pen a.then a.tags.now a.points.now a.tag (words_of (a.start.now ++ a.spots.now)) a.sound _
    (sym c.in_err-verdict.was ∙ c.verdict.ensures ∙ ap (verdict_of a.sound) (c.have_room-room.ensures ∙ ap (λ (m : ℕ). leb (a.pen.tags + 1) (length a.tags.now) && leb (a.pen.points + m) (length a.points.now)) n)))

pub put_behind-requires : goal.put_behind-requires
put_behind-requires c =
    let a = c.args in
    granted a.sound _ _ a.pen.tags (length a.tags.now) a.pen.points ((length a.start.now + length a.spots.now) * 2) (length a.points.now) c.have_room-room.ensures c.verdict.ensures c.in_ok-verdict.was

pub returns : goal.returns
returns c =
    let a = c.args in
    let n = whole_length a.start.now a.spots.now in
    c.put_behind.ensures
    ∙ added a.pen a.then a.tags.now a.points.now a.tag (words_of (a.start.now ++ a.spots.now)) a.sound
    (sym c.in_ok-verdict.was ∙ c.verdict.ensures ∙ ap (verdict_of a.sound) (c.have_room-room.ensures ∙ ap (λ (m : ℕ). leb (a.pen.tags + 1) (length a.tags.now) && leb (a.pen.points + m) (length a.points.now)) n))
