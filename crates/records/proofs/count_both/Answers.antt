-- `records::count_both` meets its contract: each tally is that of the records passed. Assumes nothing.
use Prim.Native.Nat.{ℕ, ◌≤◌}
use mathlib.Core.Path.{◌≡◌}
use mathlib.Core.Bool.{Bool}
use mathlib.Core.List.{List}
use native.Mathlib.Omega.{arith}
use Rattle.records.specs.Record.{count, tally_of}
use Rattle.records.specs.declared.Counts.{Counts}
use Rattle.records.proofs.Tallies.{Counted, none, more, room, all}
use Rattle.records.proofs.count_both.Goals as goal

pub loop-k-init : goal.loop-k-init
loop-k-init c = (none _ 2 _, none _ 4 _, none _ 2 _, none _ 4 _)

pub overflow_add-starts0 : goal.overflow_add-starts0
overflow_add-starts0 c = omega (arith, room c.loop-k.invariant.0 c.hit-starts0.ensures)

pub overflow_add-ends0 : goal.overflow_add-ends0
overflow_add-ends0 c = omega (arith, room c.loop-k.invariant.1 c.hit-ends0.ensures)

pub overflow_add-starts1 : goal.overflow_add-starts1
overflow_add-starts1 c = omega (arith, room c.loop-k.invariant.2 c.hit-starts1.ensures)

pub overflow_add-ends1 : goal.overflow_add-ends1
overflow_add-ends1 c = omega (arith, room c.loop-k.invariant.3 c.hit-ends1.ensures)

pub loop-k-preserved : goal.loop-k-preserved
loop-k-preserved c =
    let i = c.loop-k.invariant in
    (more i.0 c.hit-starts0.ensures, more i.1 c.hit-ends0.ensures, more i.2 c.hit-starts1.ensures, more i.3 c.hit-ends1.ensures)

both : {is js : ℕ → ℕ → ℕ → Bool} {ws : List ℕ} {k a b c d : ℕ} → k ≤ count ws → count ws ≤ k
    → Counted is 2 ws k a → Counted is 4 ws k b → Counted js 2 ws k c → Counted js 4 ws k d
    → ◌≡◌ {A = Counts} (record { starts0 = a; ends0 = b; starts1 = c; ends1 = d })
    (record { starts0 = tally_of is 2 ws (count ws); ends0 = tally_of is 4 ws (count ws); starts1 = tally_of js 2 ws (count ws); ends1 = tally_of js 4 ws (count ws) })
both l g h i j m = rw (all l g h, all l g i, all l g j, all l g m)
