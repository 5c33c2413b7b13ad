-- What was told of the whole way, written to `out`, is its report. Assumes nothing.
use Prim.Native.Nat.{ℕ}
use mathlib.Core.Path.{◌≡◌, ap, ◌∙◌}
use mathlib.Core.List.{List}
use Rattle.hpgl.specs.declared.Table.{Table}
use Rattle.cut.specs.Sheet.{six_of}
use Rattle.cut.specs.Stages.{Answer, report_of, Gone, gone, left, cut_of}
use Rattle.cut.specs.declared.Report.{Report}
use Rattle.svg.specs.declared.hand.Six.{Six}
use Rattle.exports.specs.Convert.{three_of}
use Rattle.exports.specs.Whole.{whole, whole_of}

module _ (text tags points scene prefixes lines bytes : List ℕ) (z six : Six) (is : z ≡ six) (t table : Table) (is-table : t ≡ table) where
  pub reported : (a : Answer) (r : Report) (os tags' points' scene' prefixes' lines' bytes' os' : List ℕ)
      → gone tags' points' (left a scene' prefixes' lines' bytes') ≡ cut_of text (six_of z) t tags points scene prefixes lines bytes → r ≡ report_of a → os' ≡ three_of r.bytes r.stage r.at os
      → whole r.number tags' points' scene' prefixes' lines' bytes' os' ≡ whole_of (cut_of text (six_of six) table tags points scene prefixes lines bytes) os
  unfolding whole_of
  reported a r os tags' points' scene' prefixes' lines' bytes' os' e k h =
      let g = e ∙ ap (λ (y : Six). cut_of text (six_of y) t tags points scene prefixes lines bytes) is ∙ ap (λ (u : Table). cut_of text (six_of six) u tags points scene prefixes lines bytes) is-table in
      ap (λ (o : List ℕ). whole r.number tags' points' scene' prefixes' lines' bytes' o) h
      ∙ ap (λ (u : Report). whole u.number tags' points' scene' prefixes' lines' bytes' (three_of u.bytes u.stage u.at os)) k
      ∙ ap (λ (x : Gone). whole_of x os) g
