-- Each stage by what its part answered: refused, or on to the next. Assumes nothing.
use Prim.Native.Nat.{ℕ, ◌*◌, ◌≤◌, min}
use native.Mathlib.Nat.{min-eq_left, min-eq_right, min-le_right}
use native.Mathlib.Decide.{dec_le}
use native.Mathlib.Omega.{arith}
use mathlib.Core.Path.{◌≡◌, sym, ap, ◌∙◌, subst}
use mathlib.Core.List.{List, [], ◌∷◌}
use lib.ListN.{length, take}
use lib.Seq.{take_all, length-take-le}
use borrow.Author.Tests.{ne_eqb}
use Rattle.refusals.specs.Refusals.{number_of, Read}
use Rattle.refusals.specs.Laws.{number_some}
use Rattle.refusals.specs.declared.Refusal.{Refusal}
use Rattle.pattern.specs.Meaning.{fresh_pen}
use Rattle.pattern.specs.declared.pen.Pen.{Pen}
use Rattle.std.specs.Prelude.{Ok, Err}
use Rattle.svg.specs.Import.{Ending, told, import_of, report_of}
use Rattle.svg.specs.Imports.{refusal_told}
use Rattle.svg.specs.declared.reader.Refusal as unread
use Rattle.svg.specs.declared.reader.Report as Text
use Rattle.scene.specs.Tags.{scan_told, scan_of}
use Rattle.profile.specs.Reads.{given}
use Rattle.profile.specs.Verdict.{Verdict, profile_of, fault_number, number_of as rule_number, told_of}
use Rattle.profile.specs.declared.rules.Rule.TheVariants.{Stroke, EvenOdd, NotWide, Transform, Subpath, TooMany}
use Rattle.profile.specs.declared.sheet.Passed.{Passed}
use Rattle.profile.specs.declared.sheet.Fault.{Fault}
use Rattle.profile.specs.declared.sheet.Fault.TheVariants.{Unread, Against}
use Rattle.profile.specs.declared.sheet.Failed.{Failed}
use Rattle.flatten.specs.Boxes.{fresh_box}
use Rattle.flatten.specs.Call.{call_of, few_of, owned_of}
use Rattle.flatten.specs.Call as call
use Rattle.flatten.specs.declared.boxes.PathBox.{PathBox}
use Rattle.flatten.specs.declared.call.Layout.{Layout}
use Rattle.flatten.specs.declared.call.Refused as stops
use Rattle.hpgl.specs.Export.{Cut, outcome, cut_of as exportedOf, look_of, error_report, cut_report}
use Rattle.hpgl.specs.Export as export
use Rattle.hpgl.specs.Looks.{look_cuts}
use Rattle.hpgl.specs.declared.Report.{Report}
use Rattle.hpgl.specs.declared.Table.{Table}
use Rattle.hpgl.specs.declared.export.CutError.{CutError}
use Rattle.hpgl.specs.declared.export.CutError.TheVariants as cut
use Rattle.cut.specs.Sheet.{Laid, laid, lay_of}
use Rattle.cut.specs.Stages.{Answer, refused, cutting, export_stage, Left, left, Cutting, flatten_stage, profile_stage, scan_stage, no_sheet, laid_by, sheet_stage, gone, cut_of}
use Rattle.cut.specs.declared.Stage.TheVariants.{Text, Sheet, Scan as Scanning, Profile, Flatten, Export}

pub take_smaller : (n : ℕ) (xs : List ℕ) → take (min n (length xs)) xs ≡ take n xs
take_smaller n xs =
    elim (dec_le n (length xs)) [
      | yes l ↦ ap (λ (k : ℕ). take k xs) (min-eq_left l)
      | no g ↦ let e : min n (length xs) ≡ length xs = min-eq_right (omega (arith, g)) in ap (λ (k : ℕ). take k xs) e ∙ take_all (length xs) xs (omega arith) ∙ sym (take_all n xs (omega (arith, g)))
    ]

pub smaller_fits : (n a : ℕ) (xs : List ℕ) → n ≡ min a (length xs) → n ≡ length (take n xs)
smaller_fits n a xs e = sym (length-take-le n xs (subst (λ (k : ℕ). k ≤ length xs) (sym e) (min-le_right a (length xs))))

-- ---- the export

ok_same : (m k : ℕ) → ◌≡◌ {A = Cut} (Ok m) (Ok k) → m ≡ k
ok_same m k e = cc

module _ (table : Table) (list bytes : List ℕ) where
  pub export_refused : (e : CutError) (r : Report) → look_of table 0 (length bytes) list ≡ Err e → r ≡ cut_report (Err e)
      → cutting (refused Export r.number r.at) bytes ≡ export_stage table list bytes
  unfolding export_stage cut_report
  export_refused (cut.BadNumber n i) r h e = rw (h, e)
  export_refused (cut.NoRoom n i) r h e = rw (h, e)

  module _ (n : ℕ) (seen : look_of table 0 (length bytes) list ≡ Ok n) (x : Cut) (file : List ℕ) (p : outcome x file ≡ exportedOf 0 list bytes) where
    pub export_whole : x ≡ Ok n
    export_whole = ap (λ (o : export.Outcome). o.answer) (p ∙ look_cuts table 0 list n bytes seen)

    pub export_goes : (m : ℕ) → x ≡ Ok m → cutting (Ok m) file ≡ export_stage table list bytes
    unfolding export_stage cut_report
    export_goes m w =
        let same : m ≡ n = ok_same m n (sym w ∙ export_whole) in
        let f = ap (λ (o : export.Outcome). o.bytes) (p ∙ look_cuts table 0 list n bytes seen) in
        rw (seen, f, same)

-- ---- the flattening

fault_some : (f : Fault) → fault_number f ≡ 0 → ⊥
unfolding fault_number rule_number
fault_some (Unread why) e = number_some why e
fault_some (Against Stroke) e = omega arith
fault_some (Against EvenOdd) e = omega arith
fault_some (Against NotWide) e = omega arith
fault_some (Against Transform) e = omega arith
fault_some (Against Subpath) e = omega arith
fault_some (Against TooMany) e = omega arith

module _ (layout : Layout) (table : Table) (scene prefixes lines bytes : List ℕ) where
  module _ (b : PathBox) (fresh : b ≡ fresh_box) (rest : List PathBox) (a : call.Answer) (ps : List PathBox) (ws : List ℕ)
      (e : call.outcome (call.told_of a) ps ws ≡ owned_of layout scene prefixes (b ∷ rest) 1 lines) where
    told_is : call.told_of a ≡ (call_of layout scene prefixes (fresh_box ∷ []) lines).answer
    unfolding owned_of few_of
    told_is = ap (λ (k : call.Outcome). k.answer) e ∙ ap (λ (p : PathBox). (call_of layout scene prefixes (p ∷ []) lines).answer) fresh

    lines_are : ws ≡ (call_of layout scene prefixes (fresh_box ∷ []) lines).lines
    unfolding owned_of few_of
    lines_are = ap (λ (k : call.Outcome). k.lines) e ∙ ap (λ (p : PathBox). (call_of layout scene prefixes (p ∷ []) lines).lines) fresh

    pub flatten_refused : (stop : stops.Refused) → a ≡ Err stop → (n : ℕ) → n ≡ number_of stop.why → left (refused Flatten n stop.tag) scene prefixes ws bytes ≡ flatten_stage layout table scene prefixes lines bytes
    unfolding flatten_stage call.told_of
    flatten_refused stop f n k = rw (sym told_is, sym lines_are, f, k, ne_eqb (number_of stop.why) 0 (number_some stop.why))

    pub flatten_goes : (count : ℕ) → a ≡ Ok count → (n : ℕ) → n ≡ min (count * 6) (length ws) → (r : Answer) (file : List ℕ) → cutting r file ≡ export_stage table (take n ws) bytes
        → left r scene prefixes ws file ≡ flatten_stage layout table scene prefixes lines bytes
    unfolding flatten_stage call.told_of
    flatten_goes count f n e r file k =
        let m : take n ws ≡ take (count * 6) ws = ap (λ (i : ℕ). take i ws) e ∙ take_smaller (count * 6) ws in
        let c = k ∙ ap (λ (l : List ℕ). export_stage table l bytes) m in
        rw (sym told_is, sym lines_are, f) (ap (λ (x : Cutting). left x.answer scene prefixes ws x.bytes) c)

  -- ---- the profile

  module _ (v : Verdict) (h : v ≡ profile_of (given layout scene prefixes)) where
    pub profile_refused : (f : Failed) → v ≡ Err f → (n : ℕ) → n ≡ fault_number f.fault → left (refused Profile n f.tag) scene prefixes lines bytes ≡ profile_stage layout table scene prefixes lines bytes
    unfolding profile_stage told_of
    profile_refused f e n k = rw (sym h, e, k, ne_eqb (fault_number f.fault) 0 (fault_some f.fault))

    pub profile_goes : (p : Passed) → v ≡ Ok p → profile_stage layout table scene prefixes lines bytes ≡ flatten_stage layout table scene prefixes lines bytes
    unfolding profile_stage told_of
    profile_goes p e = rw (sym h, e)

  -- ---- the scan

  module _ (r : Read ℕ) (ws : List ℕ) (e : scan_told r ws ≡ scan_of scene layout.tag_base prefixes) where
    pub scan_refused : (why : Refusal) → r ≡ Err why → (n : ℕ) → n ≡ number_of why → left (refused Scanning n 0) scene ws lines bytes ≡ scan_stage layout table scene prefixes lines bytes
    unfolding scan_stage scan_told
    scan_refused why h n k = rw (sym e, h, k, ne_eqb (number_of why) 0 (number_some why))

    pub scan_goes : (n : ℕ) → r ≡ Ok n → scan_stage layout table scene prefixes lines bytes ≡ profile_stage layout table scene ws lines bytes
    unfolding scan_stage scan_told
    scan_goes n h = rw (sym e, h)

-- ---- the sheet

module _ (drawn points six : List ℕ) (table : Table) (scene prefixes lines bytes : List ℕ) (r : Laid) (ws : List ℕ) (e : laid r ws ≡ lay_of drawn points six scene) where
  pub sheet_refused : (words : ℕ) → r ≡ Err words → left (refused Sheet 80 words) ws prefixes lines bytes ≡ sheet_stage drawn points six table scene prefixes lines bytes
  unfolding sheet_stage laid_by no_sheet
  sheet_refused words h = rw (sym e, h)

  pub sheet_goes : (layout : Layout) → r ≡ Ok layout → sheet_stage drawn points six table scene prefixes lines bytes ≡ scan_stage layout table ws prefixes lines bytes
  unfolding sheet_stage laid_by
  sheet_goes layout h = rw (sym e, h)

-- ---- the text

module _ (text six : List ℕ) (table : Table) (tags points scene prefixes lines bytes : List ℕ) (pen : Pen) (fresh : pen ≡ fresh_pen) (answer : Ending) (then : Pen) (tags' points' : List ℕ)
    (e : told answer then tags' points' ≡ import_of text pen tags points) where
  read_as : (a : Ending) → answer ≡ a → import_of text fresh_pen tags points ≡ told a then tags' points'
  read_as a f = sym (ap (λ (a : Ending). told a then tags' points') (sym f) ∙ e ∙ ap (λ (p : Pen). import_of text p tags points) fresh)

  pub text_refused : (z : unread.Refusal) (r : Text.Report) → answer ≡ Err z → r ≡ report_of (Err z)
      → gone tags' points' (left (refused Text r.number r.at) scene prefixes lines bytes) ≡ cut_of text six table tags points scene prefixes lines bytes
  unfolding cut_of
  text_refused z r f k = rw (read_as (Err z) f, refusal_told z, k)

  pub text_goes : {x : Unit {0}} → answer ≡ Ok x → (n m : ℕ) → n ≡ min then.tags (length tags') → m ≡ min then.points (length points') → (l : Left)
      → l ≡ sheet_stage (take n tags') (take m points') six table scene prefixes lines bytes → gone tags' points' l ≡ cut_of text six table tags points scene prefixes lines bytes
  unfolding cut_of report_of
  text_goes f n m a b l h =
      let ts : take n tags' ≡ take then.tags tags' = ap (λ (i : ℕ). take i tags') a ∙ take_smaller then.tags tags' in
      let ps : take m points' ≡ take then.points points' = ap (λ (i : ℕ). take i points') b ∙ take_smaller then.points points' in
      rw (read_as (Ok tt) f) (ap (gone tags' points') (h ∙ rw (ts, ps)))
