-- When the whole way accepts: what each part says, and the parts' own conditions. Definitions only.
use Rattle.std.specs.Prelude.{Ok, ℕ, ◌*◌, ◌^◌, ◌<◌, ◌≤◌, ◌≡◌, true, List, length, take}
use Rattle.pattern.specs.Meaning.{fresh_pen, fresh}
use Rattle.pattern.specs.Commands.{number_of}
use Rattle.svg.specs.Language.{Means}
use Rattle.svg.specs.Language.{Command as Svg}
use Rattle.svg.specs.Meaning.{meaning, all_of}
use Rattle.svg.specs.Import.{import_of}
use Rattle.profile.specs.Reads.{given}
use Rattle.profile.specs.Rules.{straight}
use Rattle.profile.specs.Verdict.{profile_of, told_of}
use Rattle.outlines.specs.Placing.{left, drawn_tags, drawn_points}
use Rattle.watertight.specs.Fill.{outcome}
use Rattle.hpgl.specs.Export.{look_of}
use Rattle.hpgl.specs.declared.Table.{Table}
use Rattle.cut.specs.Sheet.{six_of, tag_words, size_of}
use Rattle.svg.specs.declared.hand.Six.{Six}
use Rattle.whole_way.specs.Calls.{sheet_call}

-- ---- what each part says

-- what the text drew: its tags and the words of its points
abbrev pub drawn_tags_lem : List ℕ → List ℕ → List ℕ → List ℕ
drawn_tags_lem text tags points = let t = import_of text fresh_pen tags points in take t.pen.tags t.tags

abbrev pub drawn_words : List ℕ → List ℕ → List ℕ → List ℕ
drawn_words text tags points = let t = import_of text fresh_pen tags points in take t.pen.points t.points

-- what the stages behind the text say of what was drawn, where they accept
pub record Accept (drawn words six : List ℕ) (table : Table) (scene prefixes lines bytes : List ℕ) (n : ℕ) : Type 0 where
  pub few : size_of (length drawn) (length words) < 2 ^ 31
  pub room : size_of (length drawn) (length words) ≤ length scene
  pub passed : let c = sheet_call drawn words six scene prefixes lines in (told_of (profile_of (given c.layout c.scene c.prefixes))).number ≡ 0
  pub flattens : (outcome (sheet_call drawn words six scene prefixes lines)).answer.number ≡ 0
  pub cuts : let o = outcome (sheet_call drawn words six scene prefixes lines) in look_of table 0 (length bytes) (take (o.answer.count * 6) o.lines) ≡ Ok n

-- ---- the parts' own conditions

-- what the commands of a text leave: its tags and the words of its points
abbrev pub tags_by : List ℕ → List ℕ → List Svg → List ℕ
tags_by tags points commands = drawn_tags (left tags points (meaning commands))

abbrev pub words_by : List ℕ → List ℕ → List Svg → List ℕ
words_by tags points commands = drawn_points (left tags points (meaning commands))

-- The conditions on a text that spells these commands, and on what is lent.
pub record Conditions (text : List ℕ) (z : Six) (table : Table) (tags points scene prefixes lines bytes : List ℕ) (commands : List Svg) (n : ℕ) : Type 0 where
  -- the text is one of the language, and no command of it lacks room for its tag and its points
  pub means : Means text commands
  pub drawable : number_of (all_of (fresh tags points) (meaning commands)).answer ≡ 0
  -- its sheet is below 2^31 words and the scene has room for it; a prefix is lent for each word of tags
  pub few : size_of (length (tags_by tags points commands)) (length (words_by tags points commands)) < 2 ^ 31
  pub room : size_of (length (tags_by tags points commands)) (length (words_by tags points commands)) ≤ length scene
  pub prefixes_lent : tag_words (length (tags_by tags points commands)) * 4 ≤ length prefixes
  -- the profile's own: at most 4,096 segments, and no shear
  pub segments : length (tags_by tags points commands) ≤ 4096
  pub no_shear : straight (six_of z) ≡ true
  -- flattening the sheet is accepted: the transform is finite, no line and no count is without a number, the lines have room
  pub flattens : (outcome (sheet_call (tags_by tags points commands) (words_by tags points commands) (six_of z) scene prefixes lines)).answer.number ≡ 0
  -- its lines, rounded, are within the table, and the bytes have room for the file
  pub cuts :
      let o = outcome (sheet_call (tags_by tags points commands) (words_by tags points commands) (six_of z) scene prefixes lines) in
      look_of table 0 (length bytes) (take (o.answer.count * 6) o.lines) ≡ Ok n
