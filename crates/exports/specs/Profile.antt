-- The profile as C sees it: numbers and two lists in, a number out, and three words. Definitions only.
use Rattle.std.specs.Prelude.{ℕ, List}
use Rattle.profile.specs.Verdict.{Verdict, told_of}
use Rattle.exports.specs.Convert.{three_of}

-- the number returned, and `out`
pub record ProfileReport : Type 0 where
  pub number : ℕ
  pub out : List ℕ

abbrev pub profiled : ℕ → List ℕ → ProfileReport
profiled number out = record { number = number; out = out }

-- out: the tag that a refusal tells, and how many segments and subpaths passed
unfoldable pub profiled_of : Verdict → List ℕ → ProfileReport
profiled_of v out = profiled (told_of v).number (three_of (told_of v).tag (told_of v).segments (told_of v).subpaths out)
