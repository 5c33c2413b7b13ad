-- `profile::sheet::read_all` meets its contract: the tags before the one reached were read, and their segments are counted. Assumes nothing.
use Rattle.std.proofs.Common.{refl, sym, ◌∙◌, add-one, arith}
use Rattle.profile.specs.Rules.{segments}
use Rattle.profile.specs.Walk.{ReadBy}
use Rattle.profile.proofs.Passes.{none_read, one_read, one_counted, stops_unread, counted_few, reached}
use Rattle.profile.proofs.sheet.read_all.Goals as goal

pub loop-i-init : goal.loop-i-init
unfolding segments
loop-i-init c = (omega arith, refl, none_read _)

pub counted-total-requires : goal.counted-total-requires
counted-total-requires c = let l = c.loop-i in counted_few _ _ _ l.invariant.1 (omega arith)

pub returns-in-Err : goal.returns-in-Err
unfolding ReadBy
returns-in-Err c =
    let l = c.loop-i in
    λ v. stops_unread _ l.i _ l.invariant.2 (omega arith) (sym c.read_tag.ensures ∙ c.in-Err.is) v ∙ rw c.unread.ensures

pub loop-i-preserved : goal.loop-i-preserved
loop-i-preserved c =
    let l = c.loop-i in
    let e = sym c.read_tag.ensures ∙ c.in-Ok.is in
    (omega arith, rw (add-one l.i) (one_counted _ _ _ _ _ l.invariant.1 e c.counted-total.ensures), rw (add-one l.i) (one_read _ _ _ l.invariant.2 e))

pub returns : goal.returns
unfolding ReadBy
returns c = let l = c.loop-i in reached _ _ _ _ l.invariant.1 l.invariant.2 (omega arith)
