-- `roots::narrow::root25` meets its contract: what is read so far, with what is left, stays the number that came in, moved up by i digits. Assumes nothing.
use Rattle.std.proofs.Common.{◌≡◌, ◌+◌, ◌*◌, ◌^◌, ◌<◌, ◌≤◌}
use Rattle.roots.proofs.narrow.root25.Given as goal

abbrev pub invariant-loop : goal.invariant-loop
invariant-loop l =
    (l.x.e ≤ 3 * (l.x.r * l.x.r) + 3 * l.x.r) × (l.w < 2 ^ 63) × (l.x.r + 1 ≤ 1 * 2 ^ l.counter) × ((l.x.triple ≡ 3 * l.x.r) × (l.x.most ≡ 3 * (l.x.r * l.x.r) + 3 * l.x.r)) × ((l.x.r * l.x.r * l.x.r + l.x.e) * 2 ^ 63 + l.w ≡ l.t * 2 ^ 13 * 8 ^ l.counter)
