-- `mender::list::append` meets its contract. Assumes nothing.
use Prim.Native.Nat.{ℕ, ◌+◌, ◌≤◌, ◌<◌}
use mathlib.Core.Path.{◌≡◌, ◌∙◌}
use mathlib.Core.List.{List}
use native.Mathlib.Omega.{arith}
use lib.ListN.{length}
use lib.Seq.{sets}
use Rattle.records.specs.declared.Line.{Line}
use Rattle.mender.specs.Mend.{line_of}
use Rattle.mender.specs.Report.{appended_of}
use Rattle.mender.specs.declared.cases.Case.{Case}
use Rattle.mender.specs.declared.cases.Case.TheVariants.{Sound, Mended, NotMended}
use Rattle.mender.proofs.list.append.Goals as goal

room_for : (p at n : ℕ) {d : Case} {g : Line} → d ≡ Mended g → at + length (appended_of p d) ≤ n → at + 5 < n
unfolding appended_of
room_for p at n e h = let l = (rw e at h) in omega arith

one_line : (l : List ℕ) (p at : ℕ) {d : Case} {g : Line} → d ≡ Mended g → sets l at (line_of p g.x g.y g.z g.w) ≡ sets l at (appended_of p d)
unfolding appended_of
one_line l p at e = rw e

sound_none : (l : List ℕ) (p at : ℕ) {d : Case} → d ≡ Sound → l ≡ sets l at (appended_of p d)
unfolding appended_of
sound_none l p at e = rw e

not_mended_none : (l : List ℕ) (p at : ℕ) {d : Case} → d ≡ NotMended → l ≡ sets l at (appended_of p d)
unfolding appended_of
not_mended_none l p at e = rw e

pub put-requires : goal.put-requires
put-requires c = room_for _ _ _ c.in-Mended.is c.requires

pub returns-in-Sound : goal.returns-in-Sound
returns-in-Sound c = sound_none _ _ _ c.in-Sound.is

pub returns-in-Mended : goal.returns-in-Mended
returns-in-Mended c = c.put.ensures ∙ one_line _ _ _ c.in-Mended.is

pub returns-in-NotMended : goal.returns-in-NotMended
returns-in-NotMended c = not_mended_none _ _ _ c.in-NotMended.is
