-- `roots::square::feed2` meets its contract: what is read so far, with what is left, stays the number that came in, moved up by i digits. Assumes nothing.
use Rattle.std.proofs.Common.{◌≡◌, ◌+◌, ◌*◌, ◌^◌, ◌<◌, ◌≤◌}
use Rattle.roots.proofs.square.feed2.Given as goal

abbrev pub invariant-loop : goal.invariant-loop
invariant-loop l =
    (l.s.e ≤ 2 * l.s.r) × (l.w < 2 ^ 62) × (l.s.r + 1 ≤ (l.initial.s.r + 1) * 2 ^ l.counter) × ((l.s.r * l.s.r + l.s.e) * 2 ^ 62 + l.w ≡ ((l.initial.s.r * l.initial.s.r + l.initial.s.e) * 2 ^ 62 + l.digits) * 4 ^ l.counter)
