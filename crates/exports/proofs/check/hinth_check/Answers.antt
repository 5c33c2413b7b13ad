-- `exports::check::hinth_check` meets its contract. Assumes nothing.
use Prim.Native.Nat.{ℕ}
use mathlib.Core.Path.{◌≡◌, ap, ◌∙◌}
use mathlib.Core.List.{List}
use Rattle.checker.specs.Verdict.{Answers, told_of}
use Rattle.checker.specs.declared.Told.{Told}
use Rattle.std.proofs.Common.{Result}
use Rattle.checker.specs.declared.CheckError.{CheckError}
use Rattle.checker.specs.declared.Verdict.{Verdict}
use Rattle.exports.specs.Check.{two_of, Checked}
use Rattle.exports.proofs.check.hinth_check.Goals as goal

checked : {list os os' : List ℕ} (v : Result Verdict CheckError) (t : Told) → Answers list v → t ≡ told_of v → os' ≡ two_of t.verdict t.«record» os → Checked list os t.number os'
checked {os = os} v t a e w =
    record {
      verdict = v;
      answers = a;
      returned = ap (λ (t : Told). t.number) e;
      written = w ∙ ap (λ (t : Told). two_of t.verdict t.«record» os) e;
    }

pub returns : goal.returns
returns c =
    checked c.check.result c.from-told.result c.check.ensures c.from-told.ensures c.put_told.ensures
