-- `mender::list::fill` meets its contract. Assumes nothing.
use Prim.Native.Nat.{ℕ, ◌+◌, ◌/◌, ◌≤◌, ◌<◌}
use mathlib.Core.Path.{refl}
use mathlib.Core.List.{List}
use native.Mathlib.Omega.{arith}
use lib.ListN.{length, length-append}
use Rattle.records.specs.Record.{count}
use Rattle.mender.specs.Report.{lines_of, Fits, Counted, Mends}
use Rattle.mender.proofs.list.fill.Goals as goal

module _ (ws : List ℕ) (t paths lines : ℕ) (room report : List ℕ) (n : Counted ws t paths lines) where
  no_room_lem : length room / 6 < lines → Fits ws t room report → ⊥
  no_room_lem h f = omega (arith, f.lines, n.of_lines)

  no_report : length report / 6 < paths → Fits ws t room report → ⊥
  no_report h f = omega (arith, f.said, n.of_paths)

  too_many : 2000 < count ws + lines → Fits ws t room report → ⊥
  too_many h f = let e = length-append ws (lines_of ws t) in omega (arith, f.few, n.of_lines)

  fits : lines ≤ length room / 6 → paths ≤ length report / 6 → count ws + lines ≤ 2000 → Fits ws t room report
  fits h i j =
      let e = length-append ws (lines_of ws t) in
      record { lines = omega (arith, n.of_lines); said = omega (arith, n.of_paths); few = omega (arith, n.of_lines) }

pub returns-then-room-lines : goal.returns-then-room-lines
unfolding Mends
returns-then-room-lines c =
    let p = c.look-plan in
    (c.requires.0, c.requires.1, no_room_lem _ _ _ _ _ _ p.ensures.0 c.if-room-lines.true, p.ensures.0, refl)

pub returns-then-report-paths : goal.returns-then-report-paths
unfolding Mends
returns-then-report-paths c =
    let p = c.look-plan in
    (c.requires.0, c.requires.1, no_report _ _ _ _ _ _ p.ensures.0 c.if-report-paths.true, p.ensures.0, refl)

pub returns-then-list-lines-gt2000 : goal.returns-then-list-lines-gt2000
unfolding Mends
returns-then-list-lines-gt2000 c =
    let p = c.look-plan in
    (c.requires.0, c.requires.1, too_many _ _ _ _ _ _ p.ensures.0 c.if-list-lines-gt2000.true, p.ensures.0, refl)

pub returns : goal.returns
unfolding Mends
returns c =
    let p = c.look-plan in
    (c.requires.0, c.requires.1, fits _ _ _ _ _ _ p.ensures.0 c.if-room-lines.false c.if-report-paths.false c.if-list-lines-gt2000.false, p.ensures.0, c.write.ensures)
