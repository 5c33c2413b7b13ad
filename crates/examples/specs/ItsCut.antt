-- The triangle's call, cut for the knife table: its file byte for byte, and what `closed_cuts` asks is met by it. Assumes nothing.
use Rattle.std.specs.Prelude.{ℕ, ◌≤◌, ◌≡◌, refl, List, [], ◌∷◌, T, length, take}
use Rattle.std.proofs.Common.{ap, subst, sym, ◌∙◌, lit≤}
use Rattle.std.specs.Float.Ieee.{of_bits}
use Rattle.flatten.specs.Call.{Outcome}
use Rattle.own_lists.specs.Fills.{list_of}
use Rattle.hpgl.specs.Text.{digits, decimal, numeral, signed_of}
use Rattle.hpgl.specs.Form.{command, range_of}
use Rattle.hpgl.specs.declared.Table.TheVariants.{New}
use Rattle.hpgl.specs.Rounding.{rounded_of, is_within, is_good, point_of}
use Rattle.hpgl.specs.Reading.{read_of}
use Rattle.hpgl.specs.Export.{Exported, exported, written, put, goes_on, put_line, export_from, export_of, rounded_from, rounded_lines}
use Rattle.hpgl.specs.RoundTrip.{is_written}
use Rattle.hpgl.specs.declared.Point.{Point}
use Rattle.closed_cuts.specs.Closed.{starts_at, ends_at}
use Rattle.closed_cuts.proofs.Cuts.{each_path, closed_cut}
use Rattle.examples.specs.Table.{its_call, drawn}
use Rattle.examples.specs.Triangle.{its_outcome, its_acceptance}
use Rattle.examples.specs.Passes.{its_fills}

its_list : list_of its_call its_acceptance ≡ take 18 drawn.lines
unfolding its_acceptance
its_list = ap (λ (o : Outcome). take 18 o.lines) its_outcome

-- IN;PU0,0;PD3,0;PD0,6;PD0,0;
abbrev file : List ℕ
file = 73 ∷ 78 ∷ 59 ∷ 80 ∷ 85 ∷ 48 ∷ 44 ∷ 48 ∷ 59 ∷ 80 ∷ 68 ∷ 51 ∷ 44 ∷ 48 ∷ 59 ∷ 80 ∷ 68 ∷ 48 ∷ 44 ∷ 54 ∷ 59 ∷ 80 ∷ 68 ∷ 48 ∷ 44 ∷ 48 ∷ 59 ∷ []

drawn_file : export_of (range_of New) 0 27 (take 18 drawn.lines) ≡ exported file written
unfolding export_of export_from put_line put goes_on command numeral decimal digits point_of rounded_of signed_of is_good is_within range_of of_bits
drawn_file = refl

pub its_file : export_of (range_of New) 0 27 (list_of its_call its_acceptance) ≡ exported file written
its_file = ap (export_of (range_of New) 0 27) its_list ∙ drawn_file

three_lines_lem : length (rounded_lines 0 (list_of its_call its_acceptance)) ≤ 3
unfolding rounded_lines rounded_from
three_lines_lem = subst (λ (ws : List ℕ). length (rounded_lines 0 ws) ≤ 3) (sym its_list) (lit≤ tt)

-- every plotter point of the cut is a start as often as an end
pub its_cut_closes : (p : Point) → starts_at p (read_of (range_of New) 3 file).lines ≡ ends_at p (read_of (range_of New) 3 file).lines
its_cut_closes p =
    subst (λ (e : Exported). starts_at p (read_of (range_of New) 3 e.bytes).lines ≡ ends_at p (read_of (range_of New) 3 e.bytes).lines) its_file
    (closed_cut (range_of New) its_call its_acceptance 0 (each_path its_call its_fills 0) 27 (subst (λ (e : Exported). T (is_written e.verdict)) (sym its_file) tt) 3 three_lines_lem p)
