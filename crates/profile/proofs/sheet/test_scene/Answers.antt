-- `profile::sheet::test_scene` meets its contract. Assumes nothing.
use Rattle.std.proofs.Common.{sym, ◌∙◌, lt-ltb, le-ltb, arith}
use Rattle.std.proofs.lemmas.Grind.{common_steps}
use Rattle.flatten.specs.Call.{first_turn, start_of}
use Rattle.profile.specs.Verdict.{started_by, profile_of}
use Rattle.profile.specs.Passed.{all_read}
use Rattle.profile.proofs.Passes.{by_all, by_refused}
use Rattle.profile.proofs.sheet.test_scene.Goals as goal

pub returns-then-scene-layout : goal.returns-then-scene-layout
unfolding profile_of started_by start_of first_turn
returns-then-scene-layout c = rw (lt-ltb _ _ c.if-scene-layout.true, c.unread.ensures)

pub returns-then-scene-layout-2 : goal.returns-then-scene-layout-2
unfolding profile_of started_by start_of first_turn
returns-then-scene-layout-2 c = rw (le-ltb _ _ c.if-scene-layout.false, lt-ltb _ _ c.if-scene-layout-2.true, c.unread-then-scene-layout-2.ensures)

pub rules-requires : goal.rules-requires
rules-requires c =
    let k = by_all _ _ _ c.read_all.ensures c.in_ok-total.was in record { all_read = k.1; total_value = k.0 }

pub returns-in_err-total : goal.returns-in_err-total
unfolding profile_of started_by start_of first_turn
returns-in_err-total c =
    rw (le-ltb _ _ c.if-scene-layout.false, le-ltb _ _ c.if-scene-layout-2.false)
    (grind (arith, common_steps) ∙ sym (by_refused _ _ _ c.read_all.ensures c.in_err-total.was _))

pub returns : goal.returns
unfolding profile_of started_by start_of first_turn
returns c = rw (le-ltb _ _ c.if-scene-layout.false, le-ltb _ _ c.if-scene-layout-2.false) (c.rules.ensures ∙ sym (all_read _ (by_all _ _ _ c.read_all.ensures c.in_ok-total.was).1 _))
