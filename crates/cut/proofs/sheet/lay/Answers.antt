-- `cut::sheet::lay` meets its contract. Assumes nothing.
use Rattle.std.proofs.Common.{ℕ, length, sym, ap, ◌∙◌, arith, Ok}
use Rattle.flatten.specs.declared.call.Layout.{Layout}
use Rattle.cut.specs.Sheet.{six_of, layout_by, layout_of, size_of, laid}
use Rattle.cut.specs.SheetLaws.{small_some, small_none, few_tags, too_large, too_little_room, a_sheet}
use Rattle.cut.proofs.sheet.lay.Goals as goal

pub returns-in_default : goal.returns-in_default
returns-in_default c =
    let s = c.args in
    too_large s.tags.now s.points.now (six_of s.six) s.scene.now 0 (small_none _ _ (sym c.size_of.ensures ∙ c.in_default.is))

pub returns-then-scene-size : goal.returns-then-scene-size
returns-then-scene-size c =
    let s = c.args in
    let is = small_some _ _ _ (sym c.size_of.ensures ∙ c.in-Some.is) in
    too_little_room s.tags.now s.points.now (six_of s.six) s.scene.now _ is.0 is.1 c.if-scene-size.true

pub write-requires : goal.write-requires
write-requires c =
    let is = small_some _ _ _ (sym c.size_of.ensures ∙ c.in-Some.is) in
    (is.0, is.1, c.if-scene-size.false)

pub tag_words-requires : goal.tag_words-requires
tag_words-requires c =
    let is = small_some _ _ _ (sym c.size_of.ensures ∙ c.in-Some.is) in
    few_tags _ (length c.args.points.now) (omega (arith, is.0, is.1))

pub layout_of-requires : goal.layout_of-requires
unfolding size_of
layout_of-requires c =
    let is = small_some _ _ _ (sym c.size_of.ensures ∙ c.in-Some.is) in
    omega (arith, is.0, is.1, c.tag_words.ensures)

pub returns : goal.returns
returns c =
    let s = c.args in
    let is = small_some _ _ _ (sym c.size_of.ensures ∙ c.in-Some.is) in
    let layout = c.layout_of.ensures ∙ ap (λ (w : ℕ). layout_by w (length s.points.now)) c.tag_words.ensures in
    ap (λ (l : Layout). laid (Ok l) c.write.new.scene) layout
    ∙ ap (laid (Ok (layout_of (length s.tags.now) (length s.points.now)))) c.write.ensures
    ∙ a_sheet s.tags.now s.points.now (six_of s.six) s.scene.now _ is.0 is.1 c.if-scene-size.false
