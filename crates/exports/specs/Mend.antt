-- The mending of a list as C sees it: a list and a number in, a number out, and what is lent to be written. Definitions only.
use Rattle.std.specs.Prelude.{ℕ, ◌≡◌, List}
use Rattle.mender.specs.Report.{Outcome, Lent, Mends, told_of}
use Rattle.exports.specs.Check.{two_of}

-- the number returned, and the room, the report and `out` before and after
pub record MendedBy (list : List ℕ) (within : ℕ) (before : Lent) (os : List ℕ) (number : ℕ) (after : Lent) (os' : List ℕ) : Type 0 where
  pub outcome : Outcome
  pub mends : Mends list within before outcome after
  pub returned : number ≡ (told_of outcome).number
  pub written : os' ≡ two_of (told_of outcome).first (told_of outcome).second os
