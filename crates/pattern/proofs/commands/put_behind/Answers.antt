-- `pattern::commands::put_behind` meets its contract. Assumes nothing.
use mathlib.Core.Path.{◌≡◌, sym, ap, ◌∙◌}
use mathlib.Core.List.{List, ◌++◌}
use lib.Seq.{sets}
use native.Mathlib.Omega.{arith}
use Rattle.std.specs.Prelude.{ℕ, ◌+◌, ◌*◌, length}
use Rattle.pattern.specs.Commands.{words_of, written}
use Rattle.pattern.specs.Encoded.{words_append}
use Rattle.pattern.proofs.Laws.{words_length, whole_length, sets_behind}
use Rattle.pattern.proofs.commands.put_behind.Goals as goal

pub returns : goal.returns
unfolding written
returns c =
    let a = c.args in
    let e = words_length a.start.now in
    let n : a.pen.points + length (words_of (a.start.now ++ a.spots.now)) ≡ a.pen.points + length a.start.now * 2 + length a.spots.now * 2 = omega (arith, whole_length a.start.now a.spots.now) in
    rw (
      c.put_spots-2.ensures
          ∙ ap (λ (ps : List ℕ). sets ps (a.pen.points + length a.start.now * 2) (words_of a.spots.now)) c.put_spots.ensures
          ∙ sets_behind (words_of a.start.now) (words_of a.spots.now) a.points.now a.pen.points (a.pen.points + length a.start.now * 2) (omega (arith, e))
          ∙ ap (sets a.points.now a.pen.points) (sym (words_append a.start.now a.spots.now)),
      n,
    )
