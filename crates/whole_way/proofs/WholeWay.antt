-- The whole way, from the designer's text to the knife: the theorem. What it promises is defined in Promise.antt. Assumes nothing.
use Rattle.std.specs.Prelude.{Ok, ℕ, ◌*◌, ◌≤◌, ◌≡◌, refl, List, [], ◌∷◌, ◌++◌, length, take, drop}
use Rattle.std.proofs.Common.{sym, ap, ◌∙◌, subst}
use Rattle.pattern.specs.Commands.{Command, Outcome, number_of}
use Rattle.pattern.specs.Meaning.{nothing, meant, fresh_pen, fresh}
use Rattle.svg.specs.Language.{Means}
use Rattle.svg.specs.Language.{Command as Svg}
use Rattle.svg.specs.Meaning.{meaning}
use Rattle.svg.specs.Import.{Told}
use Rattle.svg.specs.Imports.{all_kept, all_after, accepted_text}
use Rattle.imported.specs.Lines.{meaning_finishes}
use Rattle.outlines.specs.Placing.{left, subpaths, Finished, drawn_tags, drawn_points, tags_from}
use Rattle.outlines.specs.Flattened.{flattened}
use Rattle.outlines.proofs.LinesDrawn.{lines_drawn}
use Rattle.closed_cuts.specs.Closed.{segments_from, rounded, AllTaken}
use Rattle.closed_cuts.specs.Chains.{lines_are, lines_taken, chains_close}
use Rattle.closed_cuts.proofs.Balance.{closed_balance}
use Rattle.own_lists.specs.Fills.{list_of}
use Rattle.watertight.specs.Fill.{Call, Accepted, outcome, lines_of}
use Rattle.watertight.specs.Fill as fills
use Rattle.hpgl.specs.Form.{Line, Chain, file_text, AllClosed, Range, Inside, AllInside, Fits, along, range_of}
use Rattle.hpgl.specs.Form.{lines_of as chainLines}
use Rattle.hpgl.specs.Reading.{complete, answer, read_of}
use Rattle.hpgl.specs.Export.{export_of, look_of, rounded_lines}
use Rattle.hpgl.specs.Looks.{look_written, look_length, look_reads}
use Rattle.hpgl.specs.RoundTrip.{export_form}
use Rattle.hpgl.specs.declared.Point.{Point}
use Rattle.hpgl.specs.declared.Table.{Table}
use Rattle.cut.specs.Sheet.{six_of}
use Rattle.cut.specs.Stages.{cut_of}
use Rattle.svg.specs.declared.hand.Six.{Six}
use Rattle.whole_way.specs.Calls.{sheet_call}
use Rattle.whole_way.specs.Promise.{subpaths_of, cut_lines, Promise}
use Rattle.whole_way.specs.Sheets as sheets
use Rattle.whole_way.specs.Drawn as drawn
use Rattle.whole_way.specs.Conditions.{drawn_tags_lem, drawn_words, Accept}
use Rattle.whole_way.specs.Stages.{accepted_call, went}

-- ---- whether chains fit a table is a matter of their lines

unfoldable AllEnds : Range → List Line → Type 0
AllEnds r [] = Unit {0}
AllEnds r (l ∷ ls) = Inside r l.from × Inside r l.to × AllEnds r ls

ends_along : (r : Range) (q : Point) (ps : List Point) (rest : List Line) → Inside r q → AllInside r ps → AllEnds r rest → AllEnds r (along q ps rest)
unfolding along AllEnds AllInside
ends_along r q [] rest h k e = e
ends_along r q (p ∷ ps) rest h k e = (h, k.0, ends_along r p ps rest k.0 k.1 e)

fits_ends : (r : Range) (cs : List Chain) → Fits r cs → AllEnds r (chainLines cs)
unfolding chainLines Fits AllEnds
fits_ends r [] h = tt
fits_ends r (c ∷ cs) h = ends_along r c.start (c.first ∷ c.more) (chainLines cs) h.0 h.1 (fits_ends r cs h.2)

along_ends : (r : Range) (q : Point) (ps : List Point) (rest : List Line) → AllEnds r (along q ps rest) → AllInside r ps × AllEnds r rest
unfolding along AllEnds AllInside
along_ends r q [] rest h = (tt, h)
along_ends r q (p ∷ ps) rest h = let k = along_ends r p ps rest h.2 in ((h.1, k.0), k.1)

ends_fit : (r : Range) (cs : List Chain) → AllEnds r (chainLines cs) → Fits r cs
unfolding chainLines Fits AllEnds along AllInside
ends_fit r [] h = tt
ends_fit r (c ∷ cs) h = let k = along_ends r c.first c.more (chainLines cs) h.2 in (h.0, (h.1, k.0), ends_fit r cs k.1)

-- ---- of the commands that a text spells

module _ (tags points : List ℕ) (cs : List Command) (e : Finished (left tags points cs)) (six : List ℕ) (six_long : length six ≡ 6) (table : Table)
    (scene prefixes lines bytes : List ℕ) (n : ℕ) (k : Accept (drawn_tags (left tags points cs)) (drawn_points (left tags points cs)) six table scene prefixes lines bytes n) where
  abbrev c : Call
  c = sheet_call (drawn_tags (left tags points cs)) (drawn_points (left tags points cs)) six scene prefixes lines

  abbrev a : Accepted c
  a = accepted_call (drawn_tags (left tags points cs)) (drawn_points (left tags points cs)) six table scene prefixes lines bytes n k

  abbrev list : List ℕ
  list = list_of c a

  abbrev room : ℕ
  room = length bytes

  looked : look_of table 0 room list ≡ Ok n
  unfolding accepted_call
  looked = k.cuts

  abbrev its_bytes : List ℕ
  its_bytes = (export_of (range_of table) 0 room list).bytes

  -- what the call draws is the flattening of the subpaths that the commands mean
  drawn_lines : lines_of c (segments_from c 0 (fills.tags c) 0) ≡ flattened six (subpaths tags points cs)
  drawn_lines =
      let few = k.few in
      let sheet = drawn.sheet tags points cs e six scene prefixes lines six_long few in
      ap (lines_of c) (drawn.segments_are tags points cs e six scene prefixes lines six_long few a ∙ ap (tags_from 2) (drawn.count tags points cs e six scene prefixes lines six_long))
      ∙ lines_drawn tags points cs e c 2 (drawn.placed tags points cs e six scene prefixes lines six_long few) a (sheets.fresh sheet) (sheets.fill sheet) (drawn.in_call tags points cs e six scene prefixes lines six_long few)
      ∙ ap (λ (z : List ℕ). flattened z (subpaths tags points cs)) (sheets.its_transform sheet)

  the_chains : (ds : List Chain) × (its_bytes ≡ file_text ds) × (rounded_lines 0 list ≡ chainLines ds) × AllClosed ds
  the_chains =
      chains_close (range_of table) c a 0 (drawn.closed_in_order tags points cs e six scene prefixes lines six_long k.few a) room
      (look_written table 0 list n room looked)

  pub promised : (file : List ℕ) → file ≡ its_bytes ++ drop n bytes → (text : List ℕ) (commands : List Svg) → Means text commands → subpaths tags points cs ≡ subpaths_of commands → Promise text six table bytes file n
  promised file is text commands m s =
      let d = the_chains in
      let meant-events : lines_of c (segments_from c 0 (fills.tags c) 0) ≡ flattened six (subpaths_of commands) = drawn_lines ∙ ap (flattened six) s in
      let meant-lines : rounded_lines 0 list ≡ cut_lines six commands = lines_are c a 0 ∙ ap rounded meant-events in
      let f = export_form (range_of table) 0 room list (look_written table 0 list n room looked) in
      let ends = subst (AllEnds (range_of table)) (sym f.2 ∙ d.2) (fits_ends (range_of table) f.0 f.3) in
      record {
        commands = commands;
        means = m;
        chains = d.0;
        form = is ∙ ap (λ (bs : List ℕ). bs ++ drop n bytes) d.1;
        size = ap length (sym d.1) ∙ sym (look_length table 0 list n room looked);
        lines = sym d.2 ∙ meant-lines;
        read_back =
            λ r l.
            ap (read_of (range_of table) r) (sym d.1)
            ∙ look_reads table 0 list n room looked r (subst (λ (ls : List Line). length ls ≤ r) (sym meant-lines) l)
            ∙ ap (λ (ls : List Line). answer ls complete) meant-lines;
        numbers = subst (AllTaken (range_of table)) meant-events (lines_taken (range_of table) c a 0 room (look_written table 0 list n room looked));
        balanced = closed_balance d.0 d.3;
        closed = d.3;
        within = ends_fit (range_of table) d.0 ends;
      }

-- ---- the theorem

-- Where the whole way accepts with n bytes, they are what Promise.antt says.
pub whole_way : (text : List ℕ) (z : Six) (table : Table) (tags points scene prefixes lines bytes : List ℕ) (n : ℕ) → (cut_of text (six_of z) table tags points scene prefixes lines bytes).behind.answer ≡ Ok n
    → Promise text (six_of z) table bytes (cut_of text (six_of z) table tags points scene prefixes lines bytes).behind.bytes n
unfolding number_of accepted_call
whole_way text z table tags points scene prefixes lines bytes n e =
    let w = went text (six_of z) table tags points scene prefixes lines bytes n e in
    let i = accepted_text fresh_pen tags points text w.read in
    let ms = meaning i.commands in
    let file = (cut_of text (six_of z) table tags points scene prefixes lines bytes).behind.bytes in
    let zero : number_of (left tags points ms).answer ≡ 0 = ap (λ (o : Outcome). number_of o.answer) (sym (all_after ms (fresh tags points) refl i.none_refused)) ∙ i.none_refused in
    let its_tags : drawn_tags_lem text tags points ≡ drawn_tags (left tags points ms) = ap (λ (t : Told). take t.pen.tags t.tags) i.drawn in
    let its_points : drawn_words text tags points ≡ drawn_points (left tags points ms) = ap (λ (t : Told). take t.pen.points t.points) i.drawn in
    let list : List ℕ → List ℕ → List ℕ = λ d u. let o = outcome (sheet_call d u (six_of z) scene prefixes lines) in take (o.answer.count * 6) o.lines in
    let Stands : List ℕ → List ℕ → Type 0 = λ d u. Accept d u (six_of z) table scene prefixes lines bytes n × (file ≡ (export_of (range_of table) 0 (length bytes) (list d u)).bytes ++ drop n bytes) in
    let g = subst (Stands (drawn_tags (left tags points ms))) its_points (subst (λ (d : List ℕ). Stands d (drawn_words text tags points)) its_tags (w.accept, w.file)) in
    promised tags points ms (meaning_finishes i.commands (fresh tags points) zero) (six_of z) refl table scene prefixes lines bytes n g.0 file g.1 text i.commands i.means
    (ap (meant nothing) (all_kept ms (fresh tags points) refl i.none_refused))
