-- What the whole way promises of a file that it wrote, each word defined. Definitions only.
--
-- The words that are used here, and where each is defined:
--   text, file    bytes. A text is path data as SVG has it, cut down to M, L, Q, C and Z
--   Means         the text is one of that language and spells these commands (svg, Language); no text spells two lists of commands (`one_meaning`)
--   meaning       M is a move, L, Q and C draw, Z and the end of the text end an outline; each number is the nearest f32 (svg, Meaning)
--   meant         the outlines that moves, segments and ends make; one that ends elsewhere than it began has a line back to there (pattern, Meaning)
--   six           the words of six f32: a, b, c, d, e, f take (x, y) to (a*x + c*y + e, b*x + d*y + f)
--   flattened     the lines of each segment of each outline in turn, as the flattening defines a fill, under the six numbers (outlines, Flattened)
--   rounded       those lines with each end at the nearest whole plotter unit, ties to even (closed_cuts, Closed)
--   AllTaken      each of those is a line, not a stop, and both its ends are finite numbers that, rounded, are in a range (closed_cuts, Closed)
--   file_text      the bytes of `IN;` and of chains: for each a PU to its start and a PD to each further point; lines_of: the lines that they draw (hpgl, Form)
--   read_of        what the table's reader gives for bytes, with room for so many lines; `complete`: it took all of them (hpgl, Reading)
--   starts_at      how often a plotter point is a line's start; ends_at: an end (closed_cuts, Closed)
--   AllClosed     each chain ends at the point where it began; Fits: each of its numbers is in a range; range_of: a table's (hpgl, Form)
use Rattle.std.specs.Prelude.{ℕ, ◌≤◌, ◌≡◌, List, ◌++◌, length, drop}
use Rattle.svg.specs.Language.{Means}
use Rattle.svg.specs.Language.{Command as Svg}
use Rattle.svg.specs.Meaning.{meaning}
use Rattle.pattern.specs.Meaning.{Subpath, nothing, meant}
use Rattle.outlines.specs.Flattened.{flattened}
use Rattle.closed_cuts.specs.Closed.{rounded, AllTaken, starts_at, ends_at}
use Rattle.hpgl.specs.Form.{Line, Chain, file_text, lines_of, AllClosed, Fits, range_of}
use Rattle.hpgl.specs.Reading.{complete, answer, read_of}
use Rattle.hpgl.specs.declared.Point.{Point}
use Rattle.hpgl.specs.declared.Table.{Table}

-- The subpaths that commands mean: each from its first point along its segments, and where it ends elsewhere than it began, a line back to there.
abbrev pub subpaths_of : List Svg → List Subpath
subpaths_of commands = meant nothing (meaning commands)

-- The lines of flattening these subpaths under the six numbers, in order, each end rounded to the nearest whole plotter unit, ties to even.
abbrev pub cut_lines : List ℕ → List Svg → List Line
cut_lines six commands = rounded (flattened six (subpaths_of commands))

-- Of a text, six words, a table, the bytes that were lent, the bytes afterwards, and the count n that was answered.
pub record Promise (text six : List ℕ) (table : Table) (lent bytes : List ℕ) (n : ℕ) : Type 0 where
  -- the text is one of the language, and spells these commands
  pub commands : List Svg
  pub means : Means text commands
  -- (a) The n bytes are a file of the form that the table's reader takes: `IN;` and chains, each a PU to its start and a PD to each end of a line.
  -- The bytes behind them are as they were lent.
  pub chains : List Chain
  pub form : bytes ≡ file_text chains ++ drop n lent
  pub size : length (file_text chains) ≡ n
  -- (b) The lines that the chains draw, and that the table's reader gives back where it has room for them, are the rounded lines of flattening exactly the
  -- subpaths that the text means, in order: nothing dropped, nothing invented.
  pub lines : lines_of chains ≡ cut_lines six commands
  pub read_back : (room : ℕ) → length (cut_lines six commands) ≤ room → read_of (range_of table) room (file_text chains) ≡ answer (cut_lines six commands) complete
  -- Each event of that flattening is a line, and its four coordinates are numbers that, rounded, are within the table: no NaN and no infinity was taken for 0.
  pub numbers : AllTaken (range_of table) (flattened six (subpaths_of commands))
  -- (c) Every plotter point is a line's start as often as a line's end, and every chain ends where it began.
  pub balanced : (p : Point) → starts_at p (lines_of chains) ≡ ends_at p (lines_of chains)
  pub closed : AllClosed chains
  -- (d) All numbers are within the table.
  pub within : Fits (range_of table) chains
