-- `pattern::commands::all_numbers` meets its contract: the points that were gone over are numbers, so that the rest decides. Assumes nothing.
use mathlib.Core.Path.{sym, ap, ◌∙◌}
use mathlib.Core.List.{List}
use Prim.Native.Nat.{◌≤◌}
use Rattle.pattern.specs.declared.pen.Spot.{Spot}
use native.Mathlib.Omega.{arith}
use lib.ListN.{length, drop_of_length-le}
use Rattle.scene.specs.Reading.{all_finite}
use Rattle.pattern.specs.Commands.{words_of, floats_of, numbers}
use Rattle.pattern.proofs.Laws.{one_of_them, given, barred}
use Rattle.pattern.proofs.commands.all_numbers.Goals as goal

pub returns-then-not-is_number : goal.returns-then-not-is_number
returns-then-not-is_number c =
    let l = c.loop-spot in
    sym (l.invariant ∙ one_of_them c.args.spots.now l.spot-index c.loop-spot-test.true ∙ barred _ _ (sym c.is_number.ensures ∙ c.if-not-is_number.true))

pub loop-spot-preserved : goal.loop-spot-preserved
loop-spot-preserved c =
    let l = c.loop-spot in
    l.invariant ∙ one_of_them c.args.spots.now l.spot-index c.loop-spot-test.true ∙ given _ _ (sym c.is_number.ensures ∙ c.if-not-is_number.false)

pub returns : goal.returns
unfolding words_of floats_of all_finite
returns c =
    let l = c.loop-spot in
    let all : length c.args.spots.now ≤ l.spot-index = omega arith in
    sym (l.invariant ∙ ap (λ (ps : List Spot). numbers (words_of ps)) (drop_of_length-le c.args.spots.now {i = l.spot-index} all))
