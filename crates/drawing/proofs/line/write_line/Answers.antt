-- `drawing::line::write_line` meets its contract. Assumes nothing.
use mathlib.Core.Path.{◌≡◌, ap, sym, ◌∙◌}
use mathlib.Core.Bool.{false}
use Rattle.spiral.specs.Util.{has_nan}
use Rattle.drawing.specs.Page.{Reach, reach_with}
use Rattle.drawing.proofs.Draw.{nan_first, nan_second, full, goes_on_lem, last_count, no_room_lem, room}
use Rattle.drawing.specs.PageLaws.{handed}
use Rattle.drawing.proofs.line.write_line.Goals as goal

pub returns-then-is_nan : goal.returns-then-is_nan
returns-then-is_nan c = handed c.in_ok-nib.was (nan_first (sym c.is_nan.ensures ∙ c.if-is_nan.true) c.stop.ensures)

pub returns-then-is_nan-2 : goal.returns-then-is_nan-2
returns-then-is_nan-2 c =
    let first : has_nan c.args.p0 ≡ false = sym c.is_nan.ensures ∙ c.if-is_nan.false in
    handed c.in_ok-nib.was (nan_second first (sym c.is_nan-2.ensures ∙ c.if-is_nan-2.true) c.stop-then-is_nan-2.ensures)

pub returns-then-count-ge4294967295 : goal.returns-then-count-ge4294967295
returns-then-count-ge4294967295 c =
    let first : has_nan c.args.p0 ≡ false = sym c.is_nan.ensures ∙ c.if-is_nan.false in
    let second : has_nan c.args.p1 ≡ false = sym c.is_nan-2.ensures ∙ c.if-is_nan-2.false in
    handed c.in_ok-nib.was
    (full first second (last_count c.args.lines.now _ c.if-count-ge4294967295.true) c.stop-then-count-ge4294967295.ensures)

pub returns-then-at-lines : goal.returns-then-at-lines
returns-then-at-lines c =
    let first : has_nan c.args.p0 ≡ false = sym c.is_nan.ensures ∙ c.if-is_nan.false in
    let second : has_nan c.args.p1 ≡ false = sym c.is_nan-2.ensures ∙ c.if-is_nan-2.false in
    handed c.in_ok-nib.was
    (full first second (no_room_lem c.args.lines.now _ c.if-at-lines.true) c.stop-then-at-lines.ensures)

pub returns : goal.returns
returns c =
    let first : has_nan c.args.p0 ≡ false = sym c.is_nan.ensures ∙ c.if-is_nan.false in
    let second : has_nan c.args.p1 ≡ false = sym c.is_nan-2.ensures ∙ c.if-is_nan-2.false in
    let a = c.args in
    handed c.in_ok-nib.was
    (goes_on_lem first second (room a.lines.now _ c.if-count-ge4294967295.false c.if-at-lines.false)
    c.put.ensures (c.add_pt-2.ensures ∙ ap (λ (b : Reach). reach_with b a.p1) c.add_pt.ensures))
