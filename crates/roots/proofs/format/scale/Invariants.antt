-- `roots::format::scale` meets its contract. The invariant: m * 2 ^ t stays n * 2 ^ 149, and m has at least 150 - t digits. Assumes nothing.
use Rattle.std.proofs.Common.{◌≡◌, ◌-◌, ◌*◌, ◌^◌, ◌<◌, ◌≤◌}
use Rattle.roots.proofs.format.scale.Given as goal

abbrev pub invariant-loop-m : goal.invariant-loop-m
invariant-loop-m l = (l.t ≤ 149) × (l.m < 2 ^ 24) × (2 ^ (149 - l.t) ≤ l.m) × (l.m * 2 ^ l.t ≡ l.n * 2 ^ 149)

abbrev pub decreases-loop-m : goal.decreases-loop-m
decreases-loop-m l = l.t
