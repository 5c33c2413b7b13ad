-- The test of a scene: the first read that fails, or else the first rule that is broken in the first tag that breaks one. Definitions only.
use Rattle.std.specs.Prelude.{ℕ, zero, suc, length, Result, Ok, Err, Option, Some, None}
use Rattle.refusals.specs.declared.Refusal.{Refusal}
use Rattle.refusals.specs.Refusals.{Read}
use Rattle.refusals.specs.Refusals as refusals
use Rattle.flatten.specs.Call.{start_of}
use Rattle.flatten.specs.declared.tag.Head.{Head}
use Rattle.profile.specs.Reads.{Given, tags, read_at}
use Rattle.profile.specs.Rules.{segments, subpaths, rule_at}
use Rattle.profile.specs.declared.rules.Rule.{Rule}
use Rattle.profile.specs.declared.rules.Rule.TheVariants.{Stroke, EvenOdd, NotWide, Transform, Subpath, TooMany}
use Rattle.profile.specs.declared.sheet.Passed.{Passed}
use Rattle.profile.specs.declared.sheet.Fault.{Fault}
use Rattle.profile.specs.declared.sheet.Fault.TheVariants.{Unread, Against}
use Rattle.profile.specs.declared.sheet.Failed.{Failed}
use Rattle.profile.specs.declared.sheet.Told.{Told}

-- what a scene that passes has, or why it is refused and at which tag
abbrev pub Verdict : Type 0
Verdict = Result Passed Failed

abbrev pub passed : ℕ → ℕ → Verdict
passed n m = Ok (record { segments = n; subpaths = m })

abbrev pub unread_fault : Refusal → ℕ → Failed
unread_fault why i = record { fault = Unread why; tag = i }

abbrev pub unread : Refusal → ℕ → Verdict
unread why i = Err (unread_fault why i)

abbrev pub against : Rule → ℕ → Verdict
against rule i = Err (record { fault = Against rule; tag = i })

-- ---- what the first tag tells that tells something

-- of n tags from tag i on; f i v is what tag i tells, or else v
unfoldable pub first : (ℕ → Verdict → Verdict) → ℕ → ℕ → Verdict → Verdict
first f i zero v = v
first f i (suc n) v = f i (first f (suc i) n v)

-- that its read is refused
unfoldable pub unread_or : Read Head → ℕ → Verdict → Verdict
unread_or (Ok h) i v = v
unread_or (Err why) i v = unread why i

abbrev pub unread_at : Given → ℕ → Verdict → Verdict
unread_at g i v = unread_or (read_at g i) i v

-- that it breaks a rule
unfoldable pub against_or : Option Rule → ℕ → Verdict → Verdict
against_or None i v = v
against_or (Some rule) i v = against rule i

abbrev pub against_at : Given → ℕ → Verdict → Verdict
against_at g i v = against_or (rule_at g i) i v

-- ---- the test

unfoldable pub rules_of : Given → Verdict
rules_of g = first (against_at g) 0 (tags g) (passed (segments g (tags g)) (subpaths g (tags g)))

-- a base past the scene's end is told at tag 0, as the call tells it
unfoldable pub started_by : Option Refusal → Verdict → Verdict
started_by None v = v
started_by (Some why) v = unread why 0

unfoldable pub profile_of : Given → Verdict
profile_of g = started_by (start_of g.layout (length g.scene)).stop (first (unread_at g) 0 (tags g) (rules_of g))

-- ---- an answer in numbers

-- no other place assigns these
unfoldable pub number_of : Rule → ℕ
number_of Stroke = 70
number_of EvenOdd = 71
number_of NotWide = 72
number_of Transform = 73
number_of Subpath = 74
number_of TooMany = 75

abbrev pub says : ℕ → ℕ → ℕ → ℕ → Told
says number tag segments subpaths = record { number = number; tag = tag; segments = segments; subpaths = subpaths }

unfoldable pub fault_number : Fault → ℕ
fault_number (Unread why) = refusals.number_of why
fault_number (Against rule) = number_of rule

unfoldable pub told_of : Verdict → Told
told_of (Ok p) = says 0 0 p.segments p.subpaths
told_of (Err f) = says (fault_number f.fault) f.tag 0 0
