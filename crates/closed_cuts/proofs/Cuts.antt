-- A closed outline is a closed cut: the theorem. What it speaks of is defined in Closed.antt. Assumes nothing.
use Prim.Native.Nat.{ℕ, zero, suc, ◌+◌, ◌≤◌}
use Rattle.std.specs.Prelude.{◌≡◌, Bool, ◌&&◌, List, [], ◌∷◌, T, eqb, length}
use Rattle.std.proofs.Math.Path.{refl, sym, ap}
use Rattle.std.proofs.Common.{◌∙◌, inl, inr, ⊎_elim, zero-add, ne_eqb}
use Rattle.std.proofs.Math.Bool.{true, false}
use native.Mathlib.Omega.{arith}
use Rattle.records.specs.Record.{count, word, path_of, once, tally_of}
use Rattle.spiral.specs.declared.util.Vec2.{Vec2}
use Rattle.drawing.specs.Sheet.{Event, line, no_count, no_join}
use Rattle.watertight.specs.Count.{starts_by, ends_by, one_where}
use Rattle.watertight.specs.Fill.{Call, Accepted, path_at, drawn_at}
use Rattle.watertight.specs.Stored.{one}
use Rattle.own_lists.specs.Fills.{list_of, OnlyClosedFills}
use Rattle.own_lists.proofs.Pass.{fills_even}
use Rattle.hpgl.specs.Text.{pick}
use Rattle.hpgl.specs.Form.{Line, Range}
use Rattle.hpgl.specs.Rounding.{point_of}
use Rattle.hpgl.specs.Reading.{Answer, read_of}
use Rattle.hpgl.specs.Export.{export_of, rounded_from, rounded_lines}
use Rattle.hpgl.specs.RoundTrip.{is_written, round_trip}
use Rattle.hpgl.specs.declared.Point.{Point}
use Rattle.closed_cuts.specs.Closed.{ClosedPath, same_point, starts_at, ends_at}

-- two words of a record of the path are rounded to p
abbrev cut_at : ℕ → Point → ℕ → ℕ → ℕ → Bool
cut_at path p q a b = eqb q path && same_point p (point_of a b)

-- ---- the rounded lines count as their records do
module _ (path : ℕ) (p : Point) (ws : List ℕ) where
  one_start : (b : Bool) (l : Line) (ls : List Line) → starts_at p (pick b (l ∷ ls) ls) ≡ once (b && same_point p l.from) + starts_at p ls
  unfolding starts_at once
  one_start true l ls = refl
  one_start false l ls = omega arith

  one_end : (b : Bool) (l : Line) (ls : List Line) → ends_at p (pick b (l ∷ ls) ls) ≡ once (b && same_point p l.to) + ends_at p ls
  unfolding ends_at once
  one_end true l ls = refl
  one_end false l ls = omega arith

  line_at : ℕ → Line
  line_at i = record { from = point_of (word ws i 2) (word ws i 3); to = point_of (word ws i 4) (word ws i 5) }

  starts_from : (n i : ℕ) → tally_of (cut_at path p) 2 ws i + starts_at p (rounded_from path ws n i) ≡ tally_of (cut_at path p) 2 ws (i + n)
  unfolding rounded_from starts_at tally_of line_at
  starts_from zero i = let e : i + 0 ≡ i = omega arith in rw e (omega arith)
  starts_from (suc n) i =
      let e : i + suc n ≡ suc i + n = omega arith in
      rw e (omega (arith, one_start (eqb (path_of ws i) path) (line_at i) (rounded_from path ws n (suc i)), starts_from n (suc i)))

  ends_from : (n i : ℕ) → tally_of (cut_at path p) 4 ws i + ends_at p (rounded_from path ws n i) ≡ tally_of (cut_at path p) 4 ws (i + n)
  unfolding rounded_from ends_at tally_of line_at
  ends_from zero i = let e : i + 0 ≡ i = omega arith in rw e (omega arith)
  ends_from (suc n) i =
      let e : i + suc n ≡ suc i + n = omega arith in
      rw e (omega (arith, one_end (eqb (path_of ws i) path) (line_at i) (rounded_from path ws n (suc i)), ends_from n (suc i)))

  starts_tally : starts_at p (rounded_lines path ws) ≡ tally_of (cut_at path p) 2 ws (count ws)
  unfolding rounded_lines tally_of
  starts_tally = sym (zero-add (starts_at p (rounded_from path ws (count ws) 0))) ∙ starts_from (count ws) 0 ∙ ap (tally_of (cut_at path p) 2 ws) (zero-add (count ws))

  ends_tally : ends_at p (rounded_lines path ws) ≡ tally_of (cut_at path p) 4 ws (count ws)
  unfolding rounded_lines tally_of
  ends_tally = sym (zero-add (ends_at p (rounded_from path ws (count ws) 0))) ∙ ends_from (count ws) 0 ∙ ap (tally_of (cut_at path p) 4 ws) (zero-add (count ws))

-- ---- a tag of another path adds nothing
no_starts : (f : Vec2 → ℕ) → ((v : Vec2) → f v ≡ 0) → (es : List Event) → starts_by f es ≡ 0
unfolding starts_by
no_starts f h [] = refl
no_starts f h (line p q ∷ es) = omega (arith, h p, no_starts f h es)
no_starts f h (no_count ∷ es) = no_starts f h es
no_starts f h (no_join ∷ es) = no_starts f h es

no_ends : (f : Vec2 → ℕ) → ((v : Vec2) → f v ≡ 0) → (es : List Event) → ends_by f es ≡ 0
unfolding ends_by
no_ends f h [] = refl
no_ends f h (line p q ∷ es) = omega (arith, h q, no_ends f h es)
no_ends f h (no_count ∷ es) = no_ends f h es
no_ends f h (no_join ∷ es) = no_ends f h es

module _ (c : Call) (a : Accepted c) (path : ℕ) (p : Point) where
  elsewhere : (q : ℕ) → (q ≡ path → ⊥) → (v : Vec2) → one_where (cut_at path p) q v ≡ 0
  unfolding once
  elsewhere q ne v = rw (ne_eqb q path ne)

  module _ (f : ClosedPath c path) where
    balanced : tally_of (cut_at path p) 2 (list_of c a) (count (list_of c a)) ≡ tally_of (cut_at path p) 4 (list_of c a) (count (list_of c a))
    balanced =
        fills_even c a (cut_at path p) f.outlines f.closed_fills
        (λ i m. ⊎_elim inl (λ e. inr (⊎_elim (λ ne. inl ((one c a (cut_at path p) i m).0 ∙ no_starts (one_where (cut_at path p) (path_at c i)) (elsewhere (path_at c i) ne) (drawn_at c i))) inr e)) (f.nothing_else i m))
        (λ i m. ⊎_elim inl (λ e. inr (⊎_elim (λ ne. inl ((one c a (cut_at path p) i m).1 ∙ no_ends (one_where (cut_at path p) (path_at c i)) (elsewhere (path_at c i) ne) (drawn_at c i))) inr e)) (f.nothing_else i m))

    lines_balance : starts_at p (rounded_lines path (list_of c a)) ≡ ends_at p (rounded_lines path (list_of c a))
    lines_balance = starts_tally path p (list_of c a) ∙ balanced ∙ sym (ends_tally path p (list_of c a))

-- every path of a call that draws closed fills and nothing else is such a path
pub each_path : (c : Call) → OnlyClosedFills c → (path : ℕ) → ClosedPath c path
each_path c f path = record { outlines = f.outlines; closed_fills = f.closed_fills; nothing_else = λ i m. ⊎_elim inl (λ e. inr (inr e)) (f.nothing_else i m) }

-- ---- the theorem: the export of a path all of whose lines come from closed runs of fills, read back, has every plotter point as a start exactly as often as an end
pub closed_cut : (r : Range) (c : Call) (a : Accepted c) (path : ℕ) → ClosedPath c path → (room : ℕ) → T (is_written (export_of r path room (list_of c a)).verdict)
    → (lines : ℕ) → length (rounded_lines path (list_of c a)) ≤ lines
    → let back = (read_of r lines (export_of r path room (list_of c a)).bytes).lines in (p : Point) → starts_at p back ≡ ends_at p back
closed_cut r c a path f room w lines h p =
    let e = ap (λ (b : Answer). b.lines) (round_trip r path room (list_of c a) w lines h) in
    ap (starts_at p) e ∙ lines_balance c a path p f ∙ sym (ap (ends_at p) e)
