-- `mender::list::mend` meets its contract. Assumes nothing.
use Rattle.std.proofs.Common.{Ok}
use Rattle.std.proofs.lemmas.Result.{err_from_is_err_and}
use Prim.Native.Nat.{ℕ}
use mathlib.Core.Path.{◌≡◌, refl}
use mathlib.Core.List.{List, [], ◌∷◌}
use native.Mathlib.Omega.{arith}
use denote.Enum.Declared.{tag_of}
use types.Run.{OneOf}
use Rattle.checker.specs.Verdict.{Finite, Taken, Answers}
use Rattle.checker.specs.declared.Verdict.{Verdict}
use Rattle.checker.specs.declared.Verdict.TheVariants.{Sound, BadNumber, Unbalanced}
use Rattle.checker.specs.contracts.Verdict.{the_type}
use Rattle.mender.specs.Report.{Mends}
use Rattle.mender.proofs.list.mend.Goals as goal

sound_taken : (ws : List ℕ) {v : Verdict} → v ≡ Sound → Answers ws (Ok v) → Taken ws × Finite ws
unfolding Answers
sound_taken ws e a = let s = (rw e at a) in (s.0, s.1.finite)

unbalanced_taken : (ws : List ℕ) (v : Verdict) → OneOf (2 ∷ []) (tag_of the_type v) → Answers ws (Ok v) → Taken ws × Finite ws
unfolding Answers
unbalanced_taken ws Sound k a = absurd (omega arith)
unbalanced_taken ws (BadNumber j) k a = absurd (omega arith)
unbalanced_taken ws (Unbalanced j) k a = (a.0, a.1)

pub returns-in_err-verdict : goal.returns-in_err-verdict
unfolding Mends
returns-in_err-verdict c =
    let p = err_from_is_err_and c.from_residual.result c.from_residual.ensures.1 in
    rw (p.1, p.2) (c.in_err-verdict.ensures, refl)

pub fill-requires : goal.fill-requires
fill-requires c = sound_taken _ c.in-Sound.is c.in_ok-verdict.ensures

pub fill-requires-in-Unbalanced : goal.fill-requires-in-Unbalanced
fill-requires-in-Unbalanced c = unbalanced_taken _ _ c.in-Unbalanced.in-Unbalanced-own.keys3 c.in_ok-verdict.ensures

pub returns-in-BadNumber : goal.returns-in-BadNumber
unfolding Mends
returns-in-BadNumber c = (rw c.in-BadNumber.is at c.in_ok-verdict.ensures, refl)
