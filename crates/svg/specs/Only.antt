-- No second answer satisfies the contract of a public function, nor second contents of the buffers. Assumes nothing.
use Rattle.std.specs.Prelude.{ℕ, ◌≡◌, Bool, List}
use Rattle.std.proofs.Common.{◌∙◌, sym}
use Rattle.std.specs.Float.{binary32}
use Rattle.std.specs.Float.Ieee.{to_bits}
use Rattle.laws.specs.Only.{Only, determined}
use Rattle.pattern.specs.declared.pen.Pen.{Pen}
use Rattle.svg.specs.Decimal.{decimal_of}
use Rattle.svg.specs.Import.{Ending, fault_number, report_of, told, import_of}
use Rattle.svg.specs.declared.steps.Fault.{Fault}
use Rattle.svg.specs.declared.reader.Report.{Report}

pub decimal_only : (s : Bool) (n k : ℕ) → Only (λ r. r ≡ to_bits binary32 (decimal_of s n k))
decimal_only s n k = determined (to_bits binary32 (decimal_of s n k))

pub number_only : (f : Fault) → Only (λ r. r ≡ fault_number f)
number_only f = determined (fault_number f)

pub report_only : (e : Ending) → Only (λ (r : Report). r ≡ report_of e)
report_only e = determined (report_of e)

pub read_only : (bs : List ℕ) (pen : Pen) (tags points : List ℕ) → Only (λ (r : Ending × (Pen × (List ℕ × List ℕ))). told r.0 r.1.0 r.1.1.0 r.1.1.1 ≡ import_of bs pen tags points)
read_only bs pen tags points r s p q = let e = p ∙ sym q in λ i. ((e i).ending, ((e i).pen, ((e i).tags, (e i).points)))
