-- `roots::sum::hypot_digits` meets its contract, by the laws of `Sums`. Assumes nothing.
use Rattle.std.proofs.Common.{◌≡◌, ℕ, ◌-◌, ◌/◌, ◌^◌, ◌<◌, ◌≤◌, sym, subst, arith}
use Rattle.roots.specs.Parts.{root_bits}
use Rattle.roots.proofs.Sums.{leading, order, magnitudes, far, less, k_pos, lo_lt, room, r'_lt, near}
use Rattle.roots.proofs.sum.hypot_digits.Goals as goal

small_place : (a b u : ℕ) → b ≤ a → a < 0x7f80_0000 → u ≡ b / 2 ^ 23 - 1 → u ≤ 1000
small_place a b u h k e = omega arith

pub returns-then-d-gt12 : goal.returns-then-d-gt12
returns-then-d-gt12 c =
    let F = c.fields-p.ensures in
    let G = c.fields-q.ensures in
    let D = order _ _ _ _ c.requires.0 F.place G.place in
    let p : 0 < c.fields-p.result.t = omega arith in
    magnitudes _ _ _ _ _ _ _ F G (far _ _ _ F.most (leading _ _ p F.full) (less _ _ _ _ G.most D c.if-d-gt12.true) _ (F.bits p) c.requires.1)

pub nonzero_div-y : goal.nonzero_div-y
nonzero_div-y c = k_pos _ _ _ _ c.fields-p.ensures.most c.fields-q.ensures.most c.if-d-gt12.false c.fours-k.ensures

pub nonzero_rem-w : goal.nonzero_rem-w
nonzero_rem-w c = k_pos _ _ _ _ c.fields-p.ensures.most c.fields-q.ensures.most c.if-d-gt12.false c.fours-k.ensures

pub nonzero_div-w : goal.nonzero_div-w
nonzero_div-w c = k_pos _ _ _ _ c.fields-p.ensures.most c.fields-q.ensures.most c.if-d-gt12.false c.fours-k.ensures

pub feed2-requires : goal.feed2-requires
feed2-requires c = (c.feed2-s.ensures.rest, room _ _ _ _ c.fields-p.ensures.most c.fields-q.ensures.most c.if-d-gt12.false c.fours-k.ensures _ _ c.feed2-s.ensures, lo_lt _ _ _ _ c.fields-p.ensures.most c.fields-q.ensures.most c.if-d-gt12.false c.fours-k.ensures)

pub pack-requires : goal.pack-requires
pack-requires c =
    (r'_lt _ _ _ _ c.fields-p.ensures.most c.fields-q.ensures.most c.if-d-gt12.false c.fours-k.ensures _ _ c.feed2-s.ensures _ _ c.feed2.ensures, small_place _ _ _ c.requires.0 c.requires.1 c.fields-q.ensures.place)

pub returns : goal.returns
returns c =
    let F = c.fields-p.ensures in
    let G = c.fields-q.ensures in
    let D = order _ _ _ _ c.requires.0 F.place G.place in
    magnitudes _ _ _ _ _ _ _ F G
    (subst (root_bits 2 _) (sym c.pack.ensures)
    (near _ _ _ _ F.most G.most c.if-d-gt12.false c.fours-k.ensures _ _ c.feed2-s.ensures _ _ c.feed2.ensures _ _ D G.full))
