-- `exports::mending::hinth_mend` meets its contract. Assumes nothing.
use Prim.Native.Nat.{ℕ}
use mathlib.Core.Path.{◌≡◌, ap, ◌∙◌}
use mathlib.Core.List.{List}
use Rattle.mender.specs.Report.{Outcome, Lent, Mends, told_of}
use Rattle.mender.specs.declared.list.Told.{Told}
use Rattle.exports.specs.Check.{two_of}
use Rattle.exports.specs.Mend.{MendedBy}
use Rattle.exports.proofs.mending.hinth_mend.Goals as goal

mended : {list : List ℕ} {within : ℕ} {before after : Lent} {os os' : List ℕ} (o : Outcome) (t : Told) → Mends list within before o after → t ≡ told_of o → os' ≡ two_of t.first t.second os
    → MendedBy list within before os t.number after os'
mended {os = os} o t m e w =
    record {
      outcome = o;
      mends = m;
      returned = ap (λ (t : Told). t.number) e;
      written = w ∙ ap (λ (t : Told). two_of t.first t.second os) e;
    }

pub returns : goal.returns
returns c =
    mended c.mend.result c.from-told.result c.mend.ensures c.from-told.ensures c.put_told.ensures
