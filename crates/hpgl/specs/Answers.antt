-- An answer in numbers: 0 or the refusal's, how many bytes or lines stand, and the record or the position of a refusal. Definitions only.
use Rattle.std.specs.Prelude.{ℕ}
use Rattle.hpgl.specs.declared.Report.{Report}

abbrev pub report : ℕ → ℕ → ℕ → Report
report number stands at = record { number = number; stands = stands; at = at }
