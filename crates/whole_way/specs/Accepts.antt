-- Which inputs the whole way accepts, in terms of the parts' own conditions: the converse. Assumes nothing.
use Rattle.std.specs.Prelude.{ℕ, ◌+◌, ◌*◌, ◌^◌, ◌<◌, ◌≡◌, List, ◌++◌, length, get_or, take, Ok}
use Rattle.std.proofs.Math.Path.{refl, ap}
use Rattle.std.proofs.Common.{sym, ◌∙◌, subst, arith}
use borrow.Author.Tests.{eq-eqb, lt-ltb, le-leb}
use Rattle.pattern.specs.Commands.{Outcome, number_of}
use Rattle.pattern.specs.Meaning.{fresh_pen, fresh}
use Rattle.svg.specs.Language.{Command as Svg}
use Rattle.svg.specs.Meaning.{meaning}
use Rattle.svg.specs.Import.{import_of, report_of}
use Rattle.svg.specs.Imports.{all_after, text_accepted}
use Rattle.scene.specs.Tags.{scan_of, filled}
use Rattle.scene.specs.Fresh.{byte_of}
use Rattle.profile.specs.Reads.{given}
use Rattle.profile.specs.Verdict.{Verdict, profile_of, told_of}
use Rattle.laid_up.specs.Patterns.{LayUp}
use Rattle.laid_up.specs.Passing.{drawn_passes}
use Rattle.imported.specs.Lines.{meaning_finishes}
use Rattle.outlines.specs.Placing.{left, Finished}
use Rattle.outlines.specs.Placing as placing
use Rattle.watertight.specs.Fill.{Call, outcome}
use Rattle.watertight.specs.Fill as fills
use Rattle.hpgl.specs.Export.{cut_report}
use Rattle.hpgl.specs.declared.Table.{Table}
use Rattle.cut.specs.Sheet.{six_of, fill_style, layout_by, size_of, fits, lay_of}
use Rattle.cut.specs.Stages.{export_stage, flatten_stage, profile_stage, scan_stage, laid_by, sheet_stage, cut_of}
use Rattle.svg.specs.declared.hand.Six.{Six}
use Rattle.whole_way.specs.Calls.{scene_of, sheet_call}
use Rattle.whole_way.specs.Sheets as sheets
use Rattle.whole_way.specs.Drawn as drawn
use Rattle.whole_way.specs.Conditions.{drawn_tags_lem, drawn_words, Accept, tags_by, words_by, Conditions}

-- ---- stage by stage

module _ (ds ws six : List ℕ) (table : Table) (scene prefixes lines bytes : List ℕ) (n : ℕ) (k : Accept ds ws six table scene prefixes lines bytes n) where
  abbrev c : Call
  c = sheet_call ds ws six scene prefixes lines

  export_accepts : let o = outcome c in (export_stage table (take (o.answer.count * 6) o.lines) bytes).answer ≡ Ok n
  unfolding export_stage cut_report
  export_accepts = rw k.cuts

  flatten_accepts : (flatten_stage c.layout table c.scene c.prefixes lines bytes).answer ≡ Ok n
  unfolding flatten_stage sheet_call
  flatten_accepts = rw (eq-eqb (outcome c).answer.number 0 k.flattens) export_accepts

  profile_accepts : (profile_stage c.layout table c.scene c.prefixes lines bytes).answer ≡ Ok n
  unfolding profile_stage
  profile_accepts = rw (eq-eqb _ 0 k.passed) flatten_accepts

  scanned : (scene : List ℕ) → (scan_of scene 0 prefixes).number ≡ 0
  unfolding scan_of filled
  scanned scene = rw (le-leb 0 (length scene) (omega arith))

  scan_accepts : (scan_stage c.layout table c.scene prefixes lines bytes).answer ≡ Ok n
  unfolding scan_stage sheet_call layout_by
  scan_accepts = rw (eq-eqb _ 0 (scanned c.scene)) profile_accepts

  sheet_accepts : (sheet_stage ds ws six table scene prefixes lines bytes).answer ≡ Ok n
  unfolding sheet_stage laid_by lay_of fits sheet_call scene_of
  sheet_accepts = rw (lt-ltb (size_of (length ds) (length ws)) (2 ^ 31) k.few, le-leb (size_of (length ds) (length ws)) (length scene) k.room) scan_accepts

-- Where the text is read and each stage accepts, the whole way does; `went` (Stages.antt) is the other direction.
pub exactly : (text six : List ℕ) (table : Table) (tags points scene prefixes lines bytes : List ℕ) (n : ℕ) → (import_of text fresh_pen tags points).ending ≡ Ok tt
    → Accept (drawn_tags_lem text tags points) (drawn_words text tags points) six table scene prefixes lines bytes n → (cut_of text six table tags points scene prefixes lines bytes).behind.answer ≡ Ok n
unfolding cut_of report_of
exactly text six table tags points scene prefixes lines bytes n read k =
    rw read (sheet_accepts (drawn_tags_lem text tags points) (drawn_words text tags points) six table scene prefixes lines bytes n k)

-- ---- in terms of the parts' own conditions

module _ (text : List ℕ) (z : Six) (table : Table) (tags points scene prefixes lines bytes : List ℕ) (commands : List Svg) (n : ℕ)
    (k : Conditions text z table tags points scene prefixes lines bytes commands n) where
  abbrev six : List ℕ
  six = six_of z

  abbrev ds : List ℕ
  ds = tags_by tags points commands

  abbrev ws : List ℕ
  ws = words_by tags points commands

  abbrev its : Call
  its = sheet_call ds ws six scene prefixes lines

  finishes : Finished (left tags points (meaning commands))
  unfolding number_of
  finishes =
      meaning_finishes commands (fresh tags points)
      (ap (λ (o : Outcome). number_of o.answer) (sym (all_after (meaning commands) (fresh tags points) refl k.drawable)) ∙ k.drawable)

  abbrev sheet : sheets.Sound ds ws six scene prefixes lines
  sheet = drawn.sheet tags points (meaning commands) finishes six scene prefixes lines refl k.few

  count : length ds ≡ (left tags points (meaning commands)).pen.tags
  count = drawn.count tags points (meaning commands) finishes six scene prefixes lines refl

  -- the sheet is one that the profile takes
  lay_up : LayUp its (left tags points (meaning commands))
  lay_up =
      let b = sheets.bases sheet in
      record {
        fresh = sheets.fresh sheet;
        lent = sheets.lent sheet k.prefixes_lent;
        tag_base = b.0;
        data_base = b.1;
        transform_tag = sheets.transform_tag sheet;
        style_tag = sheets.style_tag sheet;
        drawn = drawn.placed tags points (meaning commands) finishes six scene prefixes lines refl k.few;
        path_tag = subst (λ (m : ℕ). byte_of (placing.tag_words its) (2 + m) ≡ 0x10) count (sheets.path_tag sheet);
        nothing_more = subst (λ (m : ℕ). (i : ℕ) → 2 + m < i → i < fills.tags its → byte_of (placing.tag_words its) i ≡ 0) count (sheets.nothing_more sheet);
        in_call = omega (arith, sheets.all_tags_lem sheet, sheets.enough sheet, count);
        few = omega (arith, k.segments, count);
        fill = sheets.fill sheet;
        nonzero = sheets.nonzero sheet;
        flags_before = get_or (six ++ fill_style) 4 0;
        before_styles = sheets.before_styles sheet;
        there = sheets.transform_there sheet;
        no_shear = sheets.same_shear sheet ∙ k.no_shear;
      }

  profile_passes : (told_of (profile_of (given its.layout its.scene its.prefixes))).number ≡ 0
  unfolding told_of
  profile_passes = ap (λ (v : Verdict). (told_of v).number) (drawn_passes tags points (meaning commands) finishes its lay_up)

  -- Where the conditions hold, the whole way accepts, with the count of bytes that they name.
  pub accepts : (cut_of text six table tags points scene prefixes lines bytes).behind.answer ≡ Ok n
  unfolding cut_of report_of
  accepts =
      rw (text_accepted fresh_pen tags points text commands k.means k.drawable)
      (sheet_accepts ds ws six table scene prefixes lines bytes n (record { few = k.few; room = k.room; passed = profile_passes; flattens = k.flattens; cuts = k.cuts }))
