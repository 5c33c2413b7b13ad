-- `roots::narrow::is_near` meets its contract, by `near`. Assumes nothing.
use Rattle.std.proofs.Common.{T, sym, subst, leb→le}
use Rattle.roots.proofs.Products.{near}
use Rattle.roots.proofs.narrow.is_near.Goals as goal

pub returns-then-d-c : goal.returns-then-d-c
returns-then-d-c c = λ h.
    let s = c.square-s.ensures in
    let p = c.requires in
    near _ _ _ p.0 s.0 s.1 _ _ p.1 c.product.ensures c.if-d-c.true (leb→le _ _ (subst T (sym h) tt))
