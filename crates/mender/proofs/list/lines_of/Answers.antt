-- `mender::list::lines_of` meets its contract. Assumes nothing.
use Prim.Native.Nat.{ℕ, ◌*◌}
use mathlib.Core.Path.{◌≡◌, refl}
use mathlib.Core.List.{[], ◌∷◌}
use native.Mathlib.Omega.{arith}
use lib.ListN.{length}
use denote.Enum.Declared.{tag_of}
use types.Run.{OneOf}
use Rattle.mender.specs.Report.{appended_of}
use Rattle.mender.specs.declared.cases.Case.{Case}
use Rattle.mender.specs.declared.cases.Case.TheVariants.{Sound, Mended, NotMended}
use Rattle.mender.specs.contracts.cases.Case.{the_type}
use Rattle.mender.proofs.list.lines_of.Goals as goal

sound : (d : Case) → OneOf (0 ∷ []) (tag_of the_type d) → (p : ℕ) → 0 * 6 ≡ length (appended_of p d)
unfolding appended_of
sound Sound k p = refl
sound (Mended g) k p = absurd (omega arith)
sound NotMended k p = refl

mended : (d : Case) → OneOf (1 ∷ []) (tag_of the_type d) → (p : ℕ) → 1 * 6 ≡ length (appended_of p d)
unfolding appended_of
mended Sound k p = absurd (omega arith)
mended (Mended g) k p = refl
mended NotMended k p = absurd (omega arith)

not_mended : (d : Case) → OneOf (2 ∷ []) (tag_of the_type d) → (p : ℕ) → 0 * 6 ≡ length (appended_of p d)
unfolding appended_of
not_mended Sound k p = refl
not_mended (Mended g) k p = absurd (omega arith)
not_mended NotMended k p = refl

pub returns-in-Sound : goal.returns-in-Sound
returns-in-Sound c = sound _ c.in-Sound.in-Sound-own.keys1

pub returns-in-Mended : goal.returns-in-Mended
returns-in-Mended c = mended _ c.in-Mended.in-Mended-own.keys2

pub returns-in-NotMended : goal.returns-in-NotMended
returns-in-NotMended c = not_mended _ c.in-NotMended.in-NotMended-own.keys3
