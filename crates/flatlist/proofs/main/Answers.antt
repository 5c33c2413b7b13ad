-- `flatlist::main` meets its contract: a good sheet has its six words, no more than there is room for, and at most 16 boxes.
-- Assumes nothing.
use Rattle.std.proofs.Common.{sym, ◌∙◌, arith, ◌<◌, length-take-le, get_or-take}
use Rattle.flatlist.specs.FormLaws.{good_count}
use Rattle.flatlist.proofs.main.Goals as goal

pub shared_ref_as_front-flatten_sheet : goal.shared_ref_as_front-flatten_sheet
shared_ref_as_front-flatten_sheet c = (good_count _ _ (sym c.read_sheet.ensures ∙ c.in-Some.is)).1.0

pub flatten_sheet-requires : goal.flatten_sheet-requires
flatten_sheet-requires c =
    let good = good_count _ _ (sym c.read_sheet.ensures ∙ c.in-Some.is) in
    let s = c.in-Some.sheet in
    let six : 5 < s.count = omega arith in
    let all = length-take-le s.count s.words (omega arith) in
    (omega arith, rw (get_or-take s.count s.words 5 0 six) good.2)
