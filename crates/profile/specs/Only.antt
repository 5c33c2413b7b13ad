-- No second answer satisfies the contract of a public function. Assumes nothing.
use Rattle.std.specs.Prelude.{◌≡◌}
use Rattle.laws.specs.Only.{Only, determined}
use Rattle.profile.specs.Reads.{Given}
use Rattle.profile.specs.Verdict.{Verdict, number_of, fault_number, profile_of, told_of}
use Rattle.profile.specs.declared.rules.Rule.{Rule}
use Rattle.profile.specs.declared.sheet.Fault.{Fault}

pub test_scene_only : (g : Given) → Only (λ (r : Verdict). r ≡ profile_of g)
test_scene_only g = determined (profile_of g)

pub rule_number_only : (rule : Rule) → Only (λ r. r ≡ number_of rule)
rule_number_only rule = determined (number_of rule)

pub fault_number_only : (f : Fault) → Only (λ r. r ≡ fault_number f)
fault_number_only f = determined (fault_number f)

pub told_only : (v : Verdict) → Only (λ r. r ≡ told_of v)
told_only v = determined (told_of v)
