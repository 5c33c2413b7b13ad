-- `roots::narrow::root25` meets its contract: what is read so far, with what is left, stays the number that came in, moved up by i digits. Assumes nothing.
use Rattle.std.proofs.Common.{◌≡◌, ℕ, ◌+◌, ◌-◌, ◌*◌, ◌/◌, ◌%◌, ◌^◌, ◌<◌, ap, ◌∙◌, arith, lit≤}
use Rattle.roots.proofs.Feeding.{fed, grown, bounded}
use Rattle.roots.proofs.narrow.root25.Goals as goal

pub step3-x-requires : goal.step3-x-requires
step3-x-requires c = let v = c.loop.invariant in (bounded 1 _ _ 24 (2 ^ 25) v.2 (omega arith) (lit≤ tt), v.3.0, v.3.1, v.0, omega arith)

-- what is left, moved up by three digits
moved : (w : ℕ) → w < 2 ^ 63 → (w - w / 2 ^ 60 * 2 ^ 60 % 2 ^ 64) * 8 % 2 ^ 64 ≡ w % 2 ^ 60 * 8
moved w h = omega arith

pub loop-preserved : goal.loop-preserved
loop-preserved c =
    let v = c.loop.invariant in
    let g = c.step3-x.ensures in
    let a = c.step3-x.result.r * c.step3-x.result.r * c.step3-x.result.r + c.step3-x.result.e in
    let m = moved c.loop.w v.1 in
    (g.0.rest, omega arith, grown _ _ _ _ v.2 g.3, (g.1, g.2), ap (λ (x : ℕ). a * 2 ^ 63 + x) m ∙ fed 8 (2 ^ 60) _ _ _ _ _ v.4 g.0.value)
