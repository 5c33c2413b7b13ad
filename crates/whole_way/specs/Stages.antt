-- Where the whole way accepts, every stage accepted; where it refuses, the bytes are as they were. Assumes nothing.
use Rattle.std.specs.Prelude.{ℕ, ◌*◌, ◌^◌, ◌≡◌, Bool, ◌&&◌, cond, List, [], ◌∷◌, ◌++◌, eqb, length, drop, Ok, Err}
use Rattle.std.proofs.Math.Path.{refl, ap, subst}
use Rattle.std.proofs.Common.{sym, ◌∙◌, arith}
use Rattle.std.proofs.Math.Bool.{true, false}
use Rattle.std.proofs.Math.Dec.{T, ltb, leb, ltb→lt, leb→le}
use Rattle.std.proofs.Math.ListN.{take}
use Rattle.std.specs.Float.Ieee.Fits.{and_l, and_r}
use borrow.Author.Tests.{eqb-true}
use Rattle.refusals.specs.Laws.{number_some}
use Rattle.pattern.specs.Meaning.{fresh_pen}
use Rattle.pattern.specs.Commands.{number_of}
use Rattle.pattern.specs.declared.pen.Fault.{Fault}
use Rattle.svg.specs.Import.{Ending, import_of, fault_number, report_of}
use Rattle.svg.specs.Room.{only_room}
use Rattle.svg.specs.declared.steps.Fault.TheVariants.{NotInLanguage, TooLong}
use Rattle.svg.specs.declared.reader.Refusal.TheVariants.{Faulty, Undrawn}
use Rattle.scene.specs.Tags.{scan_of}
use Rattle.profile.specs.Reads.{given}
use Rattle.profile.specs.Verdict.{profile_of, told_of}
use Rattle.flatten.specs.Boxes.{fresh_box}
use Rattle.flatten.specs.Call.{said, call_by}
use Rattle.flatten.specs.Call as call
use Rattle.flatten.specs.declared.call.Layout.{Layout}
use Rattle.hpgl.specs.Form.{range_of}
use Rattle.hpgl.specs.Export.{Cut, export_of, look_of, cut_report}
use Rattle.hpgl.specs.declared.Table.{Table}
use Rattle.hpgl.specs.declared.export.CutError.TheVariants as cut
use Rattle.cut.specs.Sheet.{Laid, layout_of, layout_by, size_of, fits, lay_of}
use Rattle.cut.specs.Stages.{Answer, refused, export_stage, Left, left, flatten_stage, profile_stage, scan_stage, laid_by, sheet_stage, cut_of}
use Rattle.cut.specs.declared.Stage.{Stage}
use Rattle.cut.specs.declared.Stage.TheVariants.{Text, Scan, Profile, Flatten}
use Rattle.watertight.specs.Fill.{Call, Accepted, outcome}
use Rattle.whole_way.specs.Calls.{scene_of, sheet_call}
use Rattle.whole_way.specs.Conditions.{drawn_tags_lem, drawn_words, Accept}

-- ---- one stage

no_refusal : (stage : Stage) (number at n : ℕ) → refused stage number at ≡ Ok n → ⊥
no_refusal stage number at n e = let z : ◌≡◌ {A = ℕ} 0 1 = cc in omega arith

-- the stage went on
went_on_lem : (n : ℕ) (b : Bool) (x y : Left) → (cond b x y).answer ≡ Ok n → (y.answer ≡ Ok n → ⊥) → (b ≡ true) × (cond b x y ≡ x)
went_on_lem n true x y e h = (refl, refl)
went_on_lem n false x y e h = absurd (h e)

module _ (table : Table) (list bytes : List ℕ) (n : ℕ) where
  record Cuts : Type 0 where
    looked : look_of table 0 (length bytes) list ≡ Ok n
    file : (export_stage table list bytes).bytes ≡ (export_of (range_of table) 0 (length bytes) list).bytes ++ drop n bytes

  export_went_on : (export_stage table list bytes).answer ≡ Ok n → Cuts
  unfolding export_stage cut_report
  export_went_on = go (look_of table 0 (length bytes) list) refl
    where
      whole_is : (m : ℕ) → ◌≡◌ {A = Answer} (Ok m) (Ok n) → m ≡ n
      whole_is m e = cc

      go : (k : Cut) → look_of table 0 (length bytes) list ≡ k → (export_stage table list bytes).answer ≡ Ok n → Cuts
      go (Ok m) h e = let m≡n = whole_is m (rw h at e) in record { looked = h ∙ ap Ok m≡n; file = rw (h, m≡n) }
      go (Err (cut.BadNumber m i)) h e = absurd (no_refusal _ _ _ n (rw h at e))
      go (Err (cut.NoRoom m i)) h e = absurd (no_refusal _ _ _ n (rw h at e))

-- ---- all of them

lines_said : (x : call.Answer) → (call.told_of x).number ≡ 0 → call.told_of x ≡ said 0 0 (call.told_of x).count
unfolding call.told_of
lines_said (Ok k) e = refl
lines_said (Err r) e = absurd (number_some r.why e)

-- an answer of number 0 says a count of lines
pub call_said : (layout : Layout) (scene prefixes lines : List ℕ) → let o = call.call_of layout scene prefixes (fresh_box ∷ []) lines in o.answer.number ≡ 0 → o.answer ≡ said 0 0 o.answer.count
unfolding call_by
call_said layout scene prefixes lines e = lines_said _ e

read_is : (text tags points : List ℕ) (x : Ending) → (import_of text fresh_pen tags points).ending ≡ x → (report_of x).number ≡ 0 → x ≡ Ok tt
unfolding report_of fault_number number_of
read_is text tags points (Ok x) h e = refl
read_is text tags points (Err (Faulty NotInLanguage i)) h e = absurd (omega (arith, e))
read_is text tags points (Err (Faulty TooLong i)) h e = absurd (omega (arith, e))
read_is text tags points (Err (Undrawn f i)) h e = absurd (omega (arith, e, ap (λ (f : Fault). number_of (Err f)) (only_room text fresh_pen tags points f i h)))

-- the call of flattening is accepted
unfoldable pub accepted_call : (drawn words six : List ℕ) (table : Table) (scene prefixes lines bytes : List ℕ) (n : ℕ) → Accept drawn words six table scene prefixes lines bytes n → Accepted (sheet_call drawn words six scene prefixes lines)
unfolding sheet_call layout_by size_of
accepted_call drawn words six table scene prefixes lines bytes n k =
    let c = sheet_call drawn words six scene prefixes lines in
    record { u32 = omega (arith, k.few); count = (outcome c).answer.count; answer = call_said c.layout c.scene c.prefixes lines k.flattens }

module _ (text six : List ℕ) (table : Table) (tags points scene prefixes lines bytes : List ℕ) (n : ℕ) where
  abbrev drawn : List ℕ
  drawn = drawn_tags_lem text tags points

  abbrev words : List ℕ
  words = drawn_words text tags points

  abbrev c : Call
  c = sheet_call drawn words six scene prefixes lines

  -- the text was read, the stages behind it accept, and the bytes are the file before what it leaves
  pub record Went : Type 0 where
    pub read : (import_of text fresh_pen tags points).ending ≡ Ok tt
    pub accept : Accept drawn words six table scene prefixes lines bytes n
    pub file :
        (cut_of text six table tags points scene prefixes lines bytes).behind.bytes
        ≡ (export_of (range_of table) 0 (length bytes) (take ((outcome c).answer.count * 6) (outcome c).lines)).bytes ++ drop n bytes

  abbrev layout : Layout
  layout = layout_of (length drawn) (length words)

  module _ (e : (cut_of text six table tags points scene prefixes lines bytes).behind.answer ≡ Ok n) where
    text_went_on : (eqb (report_of (import_of text fresh_pen tags points).ending).number 0 ≡ true) × ((cut_of text six table tags points scene prefixes lines bytes).behind ≡ sheet_stage drawn words six table scene prefixes lines bytes)
    unfolding cut_of
    text_went_on = went_on_lem n (eqb (report_of (import_of text fresh_pen tags points).ending).number 0) _ _ e (no_refusal _ _ _ n)

    sheet_went_on : (b : Bool) → fits (length drawn) (length words) (length scene) ≡ b → (sheet_stage drawn words six table scene prefixes lines bytes).answer ≡ Ok n
        → (b ≡ true) × (sheet_stage drawn words six table scene prefixes lines bytes ≡ scan_stage layout table c.scene prefixes lines bytes)
    unfolding sheet_stage laid_by lay_of sheet_call scene_of
    sheet_went_on true h k = (refl, rw h)
    sheet_went_on false h k = absurd (no_refusal _ _ _ n (rw h at k))

    scan_went_on : (scan_stage layout table c.scene prefixes lines bytes).answer ≡ Ok n → scan_stage layout table c.scene prefixes lines bytes ≡ profile_stage layout table c.scene c.prefixes lines bytes
    unfolding scan_stage sheet_call layout_by
    scan_went_on k = (went_on_lem n (eqb (scan_of c.scene 0 prefixes).number 0) _ _ k (no_refusal _ _ _ n)).1

    profile_went_on : (profile_stage layout table c.scene c.prefixes lines bytes).answer ≡ Ok n
        → (eqb (told_of (profile_of (given layout c.scene c.prefixes))).number 0 ≡ true) × (profile_stage layout table c.scene c.prefixes lines bytes ≡ flatten_stage layout table c.scene c.prefixes lines bytes)
    unfolding profile_stage
    profile_went_on k = went_on_lem n (eqb (told_of (profile_of (given layout c.scene c.prefixes))).number 0) _ _ k (no_refusal _ _ _ n)

    flatten_went_on : (flatten_stage layout table c.scene c.prefixes lines bytes).answer ≡ Ok n
        → (eqb (outcome c).answer.number 0 ≡ true)
        × ((export_stage table (take ((outcome c).answer.count * 6) (outcome c).lines) bytes).answer ≡ Ok n)
        × ((flatten_stage layout table c.scene c.prefixes lines bytes).bytes ≡ (export_stage table (take ((outcome c).answer.count * 6) (outcome c).lines) bytes).bytes)
    unfolding flatten_stage sheet_call
    flatten_went_on k =
        let w = went_on_lem n (eqb (outcome c).answer.number 0) _ _ k (no_refusal _ _ _ n) in
        (w.0, ap (λ (l : Left). l.answer) (sym w.1) ∙ k, ap (λ (l : Left). l.bytes) w.1)

    layout_is : eqb (told_of (profile_of (given c.layout c.scene c.prefixes))).number 0 ≡ eqb (told_of (profile_of (given layout c.scene c.prefixes))).number 0
    unfolding sheet_call
    layout_is = refl

    -- where the whole way accepts, every stage did
    pub went : Went
    unfolding fits
    went =
        let t = text_went_on in
        let s = sheet_went_on (fits (length drawn) (length words) (length scene)) refl (ap (λ (l : Left). l.answer) (sym t.1) ∙ e) in
        let at-scan = t.1 ∙ s.1 in
        let at-profile = at-scan ∙ scan_went_on (ap (λ (l : Left). l.answer) (sym at-scan) ∙ e) in
        let p = profile_went_on (ap (λ (l : Left). l.answer) (sym at-profile) ∙ e) in
        let at-flatten = at-profile ∙ p.1 in
        let f = flatten_went_on (ap (λ (l : Left). l.answer) (sym at-flatten) ∙ e) in
        let below = ltb (size_of (length drawn) (length words)) (2 ^ 31) in
        let within = leb (size_of (length drawn) (length words)) (length scene) in
        let h : T (below && within) = subst T (sym s.0) tt in
        let k = export_went_on table (take ((outcome c).answer.count * 6) (outcome c).lines) bytes n f.1 in
        record {
          read = read_is text tags points (import_of text fresh_pen tags points).ending refl (eqb-true _ _ t.0);
          accept =
              record {
                few = ltb→lt (size_of (length drawn) (length words)) (2 ^ 31) (and_l below within h);
                room = leb→le (size_of (length drawn) (length words)) (length scene) (and_r below within h);
                passed = eqb-true _ _ (layout_is ∙ p.0);
                flattens = eqb-true _ _ f.0;
                cuts = k.looked;
              };
          file = ap (λ (l : Left). l.bytes) at-flatten ∙ f.2 ∙ k.file;
        }

-- ---- a refusal

-- the bytes of the export's stage are as they were unless it accepts
export_kept : (table : Table) (list bytes : List ℕ) (stage : Stage) (number at : ℕ) → (export_stage table list bytes).answer ≡ refused stage number at → (export_stage table list bytes).bytes ≡ bytes
unfolding export_stage cut_report
export_kept table list bytes stage number at = go (look_of table 0 (length bytes) list) refl
  where
    go : (k : Cut) → look_of table 0 (length bytes) list ≡ k → (export_stage table list bytes).answer ≡ refused stage number at → (export_stage table list bytes).bytes ≡ bytes
    go (Ok m) h e = absurd (no_refusal stage number at m (sym (rw h at e)))
    go (Err (cut.BadNumber m i)) h e = rw h
    go (Err (cut.NoRoom m i)) h e = rw h

-- a stage that refuses, or the next
either : (stage : Stage) (number at : ℕ) (bytes : List ℕ) (b : Bool) (x y : Left) → (x.answer ≡ refused stage number at → x.bytes ≡ bytes) → y.bytes ≡ bytes → (cond b x y).answer ≡ refused stage number at → (cond b x y).bytes ≡ bytes
either stage number at bytes true x y f e h = f h
either stage number at bytes false x y f e h = e

module _ (text six : List ℕ) (table : Table) (tags points scene prefixes lines bytes : List ℕ) (stage : Stage) (number at : ℕ) where
  flatten_kept : (layout : Layout) (scene prefixes : List ℕ) → (flatten_stage layout table scene prefixes lines bytes).answer ≡ refused stage number at → (flatten_stage layout table scene prefixes lines bytes).bytes ≡ bytes
  unfolding flatten_stage
  flatten_kept layout scene prefixes =
      let o = call.call_of layout scene prefixes (fresh_box ∷ []) lines in
      let list = take (o.answer.count * 6) o.lines in
      let k = export_stage table list bytes in
      either stage number at bytes (eqb o.answer.number 0) (left k.answer scene prefixes o.lines k.bytes) (left (refused Flatten o.answer.number o.answer.tag) scene prefixes o.lines bytes)
      (export_kept table list bytes stage number at) refl

  profile_kept : (layout : Layout) (scene prefixes : List ℕ) → (profile_stage layout table scene prefixes lines bytes).answer ≡ refused stage number at → (profile_stage layout table scene prefixes lines bytes).bytes ≡ bytes
  unfolding profile_stage
  profile_kept layout scene prefixes =
      let t = told_of (profile_of (given layout scene prefixes)) in
      either stage number at bytes (eqb t.number 0) (flatten_stage layout table scene prefixes lines bytes) (left (refused Profile t.number t.tag) scene prefixes lines bytes) (flatten_kept layout scene prefixes) refl

  scan_kept : (layout : Layout) (scene : List ℕ) → (scan_stage layout table scene prefixes lines bytes).answer ≡ refused stage number at → (scan_stage layout table scene prefixes lines bytes).bytes ≡ bytes
  unfolding scan_stage
  scan_kept layout scene =
      let s = scan_of scene layout.tag_base prefixes in
      either stage number at bytes (eqb s.number 0) (profile_stage layout table scene s.words lines bytes) (left (refused Scan s.number 0) scene s.words lines bytes) (profile_kept layout scene s.words) refl

  laid_kept : (r : Laid) (scene : List ℕ) → (laid_by r table scene prefixes lines bytes).answer ≡ refused stage number at → (laid_by r table scene prefixes lines bytes).bytes ≡ bytes
  unfolding laid_by
  laid_kept (Ok layout) scene h = scan_kept layout scene h
  laid_kept (Err k) scene h = refl

  -- a refusal, whatever the stage, leaves the bytes of the file as they were
  pub refused_leaves : (cut_of text six table tags points scene prefixes lines bytes).behind.answer ≡ refused stage number at → (cut_of text six table tags points scene prefixes lines bytes).behind.bytes ≡ bytes
  unfolding cut_of sheet_stage
  refused_leaves =
      let t = import_of text fresh_pen tags points in
      let r = report_of t.ending in
      let l = lay_of (take t.pen.tags t.tags) (take t.pen.points t.points) six scene in
      either stage number at bytes (eqb r.number 0) (laid_by l.answer table l.scene prefixes lines bytes) (left (refused Text r.number r.at) scene prefixes lines bytes) (laid_kept l.answer l.scene) refl
