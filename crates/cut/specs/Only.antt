-- No second answer satisfies the contract of a public function, nor second contents of what was lent. Assumes nothing.
use Rattle.std.specs.Prelude.{ℕ, ◌≡◌, List}
use Rattle.std.proofs.Common.{◌∙◌, sym}
use Rattle.laws.specs.Only.{Only, determined}
use Rattle.hpgl.specs.declared.Table.{Table}
use Rattle.cut.specs.Sheet.{Laid, laid, lay_of}
use Rattle.cut.specs.Stages.{Answer, stage_of, report_of, left, gone, cut_of}
use Rattle.cut.specs.declared.Stage.{Stage}
use Rattle.cut.specs.declared.Report.{Report}

pub number_only : (stage : Stage) → Only (λ r. r ≡ stage_of stage)
number_only stage = determined (stage_of stage)

pub report_only : (a : Answer) → Only (λ (r : Report). r ≡ report_of a)
report_only a = determined (report_of a)

pub lay_only : (drawn points six scene : List ℕ) → Only (λ (r : Laid × List ℕ). laid r.0 r.1 ≡ lay_of drawn points six scene)
lay_only drawn points six scene r s p q = let e = p ∙ sym q in λ i. ((e i).answer, (e i).scene)

pub cut_only : (text six : List ℕ) (table : Table) (tags points scene prefixes lines bytes : List ℕ)
    → Only (λ (r : Answer × (List ℕ × (List ℕ × (List ℕ × (List ℕ × (List ℕ × List ℕ)))))).
    gone r.1.0 r.1.1.0 (left r.0 r.1.1.1.0 r.1.1.1.1.0 r.1.1.1.1.1.0 r.1.1.1.1.1.1) ≡ cut_of text six table tags points scene prefixes lines bytes)
cut_only text six table tags points scene prefixes lines bytes r s p q =
    let e = p ∙ sym q in
    λ i. ((e i).behind.answer, ((e i).tags, ((e i).points, ((e i).behind.scene, ((e i).behind.prefixes, ((e i).behind.lines, (e i).behind.bytes))))))
